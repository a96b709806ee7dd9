-- What a search through a list found so far.
use Rattle.std.proofs.Common.{◌≡◌, ℕ, suc, ◌+◌, ◌<◌, Bool, true, false, cond, List, [], ◌∷◌, ◌++◌, length, take, drop, get_or, map, find, ap, ◌∙◌, Some, None}
use Rattle.std.specs.Option.{option_or}
use Rattle.std.proofs.Math.Seq.{split_at}
use Rattle.std.proofs.lemmas.List.{map-append, take_more}
use Rattle.std.proofs.lemmas.List.Folds.{find-append}

module _ {X Y : Type 0} (p : Y → Bool) (h : X → Y) (xs : List X) (i : ℕ) (d : X) (less : i < length xs) (none : find p (map h (take i xs)) ≡ None) where
  after : (more : List X) → find p (map h (take i xs ++ get_or xs i d ∷ more)) ≡ cond (p (h (get_or xs i d))) (Some (h (get_or xs i d))) (find p (map h more))
  after more =
      let rest = h (get_or xs i d) ∷ map h more in
      ap (find p) (map-append h (take i xs) (get_or xs i d ∷ more)) ∙ find-append p (map h (take i xs)) rest ∙ ap (λ o. option_or o (find p rest)) none

  -- it is found here
  pub find_here : p (h (get_or xs i d)) ≡ true → find p (map h xs) ≡ Some (h (get_or xs i d))
  find_here is =
      let more = drop (suc i) xs in
      ap (λ l. find p (map h l)) (split_at xs i d less) ∙ after more ∙ ap (λ b. cond b (Some (h (get_or xs i d))) (find p (map h more))) is

  -- it isn't here either
  pub find_on : p (h (get_or xs i d)) ≡ false → find p (map h (take (i + 1) xs)) ≡ None
  find_on isnt =
      ap (λ l. find p (map h l)) (take_more xs i d less) ∙ after [] ∙ ap (λ b. cond b (Some (h (get_or xs i d))) None) isnt
