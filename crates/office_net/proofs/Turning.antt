-- A job's turn, told as what happened.
use Rattle.std.proofs.Common.{◌≡◌, ℕ, true, false, ◌∷◌, Option, Some, None, refl, sym, ap, ◌∙◌, subst}
use Rattle.std.specs.Prelude.{is_some, option_map}
use Rattle.poll_book.specs.declared.rows.Setting.{Setting}
use Rattle.poll_book.specs.declared.rows.SettingRow.{SettingRow}
use Rattle.poll_book.specs.Orders.{as_setting}
use Rattle.poll_book.specs.Tables.{Tables}
use Rattle.office_core.specs.declared.event.EventAnswer.{EventAnswer}
use Rattle.office_core.specs.History.{Happening, History, tables}
use Rattle.office_core.specs.Answers.{answer_of}
use Rattle.office_core.specs.Leavings.{LeftAfter}
use Rattle.office_core.specs.Standing.{is_store}
use Rattle.office_core.specs.Following.{Fails, Happens, Stays}
use Rattle.office_net.specs.Moves.{number_of}
use Rattle.office_core.proofs.Following.{left_more}

module _ (stood mid stands : History → Type 0) (might may may' : Tables → Type 0) (first : Stays stood mid might may) (event : History → Happening) (happening : Happening) (told : EventAnswer)
    (is : (now : History) → stood now → happening ≡ event now) where
  -- nothing happened, and then something did
  pub then_happens : Happens mid stands may may' (λ now. happening) told → Happens stood stands might may' event told
  then_happens second = record {
    follows = λ now s. subst (λ (h : Happening). stands (h ∷ now)) (is now s) (second.follows now (first.follows now s));
    answered = λ now s. second.answered now (first.follows now s) ∙ ap (answer_of now) (is now s);
    leaves = λ now s left l. subst (λ (h : Happening). LeftAfter might (tables now) (tables (h ∷ now)) false left) (is now s)
        (left_more may might (tables now) (tables (happening ∷ now)) false first.leaves left (second.leaves now (first.follows now s) left l));
  }

  -- or was refused
  pub then_fails : Fails mid stands may may' (λ now. happening) told → Fails stood stands might may' event told
  then_fails second = record {
    follows = λ now s. second.follows now (first.follows now s);
    answered = λ fine now s. second.answered fine now (first.follows now s) ∙ ap (answer_of now) (is now s);
    leaves = λ now s left l. subst (λ (h : Happening). LeftAfter might (tables now) (tables (h ∷ now)) (is_store told) left) (is now s)
        (left_more may might (tables now) (tables (happening ∷ now)) (is_store told) first.leaves left (second.leaves now (first.follows now s) left l));
  }

-- the number of the order that was found
pub number_found : (found : Option SettingRow) (row : SettingRow) (o : Option (ℕ × Setting)) → found ≡ Some row → option_map as_setting found ≡ o → (is_some o ≡ true) × (row.number ≡ number_of o)
number_found found row o some is = subst (λ x. (is_some x ≡ true) × (row.number ≡ number_of x)) (ap (option_map as_setting) (sym some) ∙ is) (refl, refl)

pub none_found : (found : Option SettingRow) (o : Option (ℕ × Setting)) → found ≡ None → option_map as_setting found ≡ o → is_some o ≡ false
none_found found o none is = ap is_some (sym is ∙ ap (option_map as_setting) none)
