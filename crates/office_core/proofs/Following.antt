-- A call of the office, told as what happened.
use mir.Val.{SFits}
use Rattle.std.specs.Int.{w128}
use Rattle.std.proofs.Common.{ℤ, pos, negsuc, inl, inr, Bool, true, false, [], ◌∷◌, Result, Ok, Err, refl, ◌≡◌, ◌≢◌, ◌∙◌, subst, arith}
use Rattle.std.specs.Prelude.{OnErr}
use Rattle.poll_book.specs.declared.keeper.Neighbours.{Ghosts}
use Rattle.poll_book.specs.Tables.{Tables, Within}
use Rattle.office_core.specs.declared.office.Office.{Office}
use Rattle.office_core.specs.declared.error.OfficeError.{OfficeError}
use Rattle.office_core.specs.declared.event.Event.{Event}
use Rattle.office_core.specs.declared.event.EventAnswer.{EventAnswer}
use Rattle.office_core.specs.declared.event.EventAnswer.TheVariants.{Refused}
use Rattle.office_core.specs.declared.event.RequestAnswer.{RequestAnswer}
use Rattle.office_core.specs.Following.{Fails, Follows, Happens, MayLeave, Stays, Went}
use Rattle.office_core.specs.History.{History, tables}
use Rattle.office_core.specs.Leavings.{LeftAfter, Leaves}
use Rattle.office_core.specs.Legal.{IsNumber, Legal, MayHappen}
use Rattle.office_core.specs.Messages.{happening_of}
use Rattle.office_core.specs.Offices.{IsAlike, OnlyAsked, Stands, keeper_of, told_so}
use Rattle.office_core.specs.Standing.{Goes, Sees, is_refusal, is_store}
use Rattle.office_core.proofs.Newness.{left_within}

-- what an office stands for, where it may be and has begun
abbrev pub Begun : (History → Type 0) → History → Type 0
Begun stands now = stands now × Legal now × (now ≢ [])

-- where nothing changed but room, an office stands for what it stood for
pub stands_alike : {K : Type 0} {g : Ghosts K} (old new : Office K g) → IsAlike old new → (now : History) → Stands old now → Stands new now
stands_alike old new alike now stands = record {
  tables = alike.0 (tables now) stands.tables;
  site = alike.1 ∙ stands.site;
  points = alike.2 ∙ stands.points;
  connections = λ conn. alike.3 conn ∙ stands.connections conn;
}

-- an office that was only asked
pub stays_so : {K : Type 0} {g : Ghosts K} (old new : Office K g) → OnlyAsked old new → g.is_clean (keeper_of new)
    → Stays (Follows old) (Follows new) (MayLeave old) (MayLeave new)
stays_so old new asked clean = record { follows = λ now follows. (stands_alike old new asked.0 now follows.0, follows.1, follows.2); leaves = asked.1 clean }

module _ (stood stands : History → Type 0) (might may : Tables → Type 0) (seen : Event) (told : EventAnswer)
    (can : (now : History) → MayHappen now (happening_of now seen)) (sees : (now : History) → Sees now (happening_of now seen) seen)
    (goes : Goes stood stands seen told) (leaves : Leaves stood might may seen told) where
  -- an event that the store didn't refuse happened
  pub happened : is_store told ≡ false → Happens (Begun stood) (Begun stands) might may (λ now. happening_of now seen) told
  happened fine = record {
    follows = λ now begun. (
      (goes.happened now (happening_of now seen) begun.0 (can now) (sees now) fine).0,
      (can now, (λ none. absurd (begun.2 none)), begun.1),
      λ none. absurd (cc),
    );
    answered = λ now begun. (goes.happened now (happening_of now seen) begun.0 (can now) (sees now) fine).1;
    leaves = λ now begun. subst (λ b. Within may (LeftAfter might (tables now) (tables (happening_of now seen ∷ now)) b)) fine
        (leaves now (happening_of now seen) begun.0 (can now) (sees now));
  }

  -- one that changed nothing was refused
  pub failed : ((now : History) → stood now → stands now) → Fails (Begun stood) (Begun stands) might may (λ now. happening_of now seen) told
  failed same = record {
    follows = λ now begun. (same now begun.0, begun.1, begun.2);
    answered = λ fine now begun. (goes.happened now (happening_of now seen) begun.0 (can now) (sees now) fine).1;
    leaves = λ now begun. leaves now (happening_of now seen) begun.0 (can now) (sees now);
  }

-- a call whose result is told as an event's answer
pub went : {K X : Type 0} {g : Ghosts K} (old new : Office K g) (seen : Event) (tell : X → EventAnswer) (so : Result X OfficeError → EventAnswer)
    → ((x : X) → so (Ok x) ≡ tell x) → ((e : OfficeError) → so (Err e) ≡ Refused e) → ((x : X) → is_store (tell x) ≡ false)
    → ((now : History) → MayHappen now (happening_of now seen)) → ((now : History) → Sees now (happening_of now seen) seen)
    → (told : Result X OfficeError) → Goes (Stands old) (Stands new) seen (so told) → Leaves (Stands old) (MayLeave old) (MayLeave new) seen (so told)
    → OnErr told (IsAlike old new) → Went old new (λ now. happening_of now seen) tell told
went old new seen tell so oks errs fine can sees (Ok x) goes leaves alike =
    happened (Stands old) (Stands new) (MayLeave old) (MayLeave new) seen (tell x) can sees
    (subst (Goes (Stands old) (Stands new) seen) (oks x) goes) (subst (Leaves (Stands old) (MayLeave old) (MayLeave new) seen) (oks x) leaves) (fine x)
went old new seen tell so oks errs fine can sees (Err e) goes leaves alike =
    failed (Stands old) (Stands new) (MayLeave old) (MayLeave new) seen (Refused e) can sees
    (subst (Goes (Stands old) (Stands new) seen) (errs e) goes) (subst (Leaves (Stands old) (MayLeave old) (MayLeave new) seen) (errs e) leaves)
    (stands_alike old new alike)

-- a request that the store refused changed nothing
pub alike_on_err : {K : Type 0} {g : Ghosts K} (old new : Office K g) (told : Result RequestAnswer OfficeError) → (is_refusal (told_so told) ≡ true → IsAlike old new) → OnErr told (IsAlike old new)
alike_on_err old new (Ok answer) same = tt
alike_on_err old new (Err e) same = same refl

-- a number of 128 bits
pub is_number : (z : ℤ) → SFits w128 z → IsNumber z
is_number (pos n) fits = omega (arith, fits.sfits)
is_number (negsuc n) fits = omega (arith, fits.sfits)

-- an event that changed no table adds no more than one that the store refused
pub left_refused : (may : Tables → Type 0) (old new : Tables) (b : Bool) → Within (LeftAfter may old new b) (LeftAfter may old new true)
left_refused may old new true left l = l
left_refused may old new false left (inl made) = inr made
left_refused may old new false left (inr same) = inl same.1

-- what an event adds to less, it adds to more
pub left_more : (might may : Tables → Type 0) (old new : Tables) (b : Bool) → Within might may → Within (LeftAfter might old new b) (LeftAfter may old new b)
left_more might may old new b within = left_within may might old new b within
