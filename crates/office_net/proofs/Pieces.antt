-- What is done with a piece of a stream, part after part.
use Rattle.std.proofs.Common.{◌≡◌, ℕ, List, [], ◌∷◌, ◌++◌, Option, Some, None, ap, ◌∙◌, append_assoc, sym, subst, arith, ◌<◌}
use Rattle.std.specs.List.{flat_map}
use Rattle.std.specs.Io.KnownBytes.{Appends}
use Rattle.std.proofs.KnownBytes.{Appends-nil, Appends-trans}
use Rattle.std.proofs.lemmas.Grind.{flat_map-append}
use Rattle.std.proofs.lemmas.List.{append-nil}
use Rattle.mb_mbap.specs.declared.counted.Counted.{Counted}
use Rattle.mb_mbap.specs.declared.frame.Frame.{Frame}
use Rattle.mb_mbap.specs.Counted.{HasRisen, failures_of}
use Rattle.mb_mbap.specs.Stream.{spelled}
use Rattle.poll_book.specs.declared.keeper.Neighbours.{Ghosts}
use Rattle.office_core.specs.declared.office.Office.{Office}
use Rattle.office_core.specs.History.{History}
use Rattle.office_net.specs.declared.fault.PollFault.{PollFault}
use Rattle.office_net.specs.declared.fault.PollFault.TheVariants as fault
use Rattle.office_net.specs.declared.machine.Poll.{Poll}
use Rattle.office_net.specs.Faults.{ClosedBy, NoneFailed}
use Rattle.office_net.specs.Stages.{BreaksOff, GoesOn, as_list}
use Rattle.office_net.specs.Rounds.{Handles, Breaks}
use Rattle.office_net.proofs.Joining.{still, then_on, then_breaks, stops_here, with_coming}

-- ---- the queries are what was written

-- nothing was done
pub handles_none : {K : Type 0} {g : Ghosts K} (office : Office K g) (poll : Poll) (wrote : Option (List ℕ)) → Handles office poll office poll [] wrote wrote
handles_none office poll wrote = ([], still office poll, Appends-nil wrote)

-- a query was made and written
pub handles_query : {K : Type 0} {g : Ghosts K} (office office' : Office K g) (old new : Poll) (query : Frame) (next : Option Frame) (wrote writes : Option (List ℕ))
    → next ≡ Some query → GoesOn office old office' new [] (as_list next) → Appends wrote writes (spelled query) → Handles office old office' new [] wrote writes
handles_query office office' old new query next wrote writes is goes written = (
  query ∷ [],
  subst (λ o. GoesOn office old office' new [] (as_list o)) is goes,
  subst (Appends wrote writes) (sym (append-nil (spelled query))) written,
)

-- no query was made
pub handles_last : {K : Type 0} {g : Ghosts K} (office office' : Office K g) (old new : Poll) (next : Option Frame) (wrote : Option (List ℕ))
    → next ≡ None → GoesOn office old office' new [] (as_list next) → Handles office old office' new [] wrote wrote
handles_last office office' old new next wrote is goes = ([], subst (λ o. GoesOn office old office' new [] (as_list o)) is goes, Appends-nil wrote)

-- a frame was taken
pub handles_frame : {K : Type 0} {g : Ghosts K} (office office' : Office K g) (old new : Poll) (frame : Frame) (wrote : Option (List ℕ))
    → GoesOn office old office' new (frame ∷ []) [] → Handles office old office' new (frame ∷ []) wrote wrote
handles_frame office office' old new frame wrote goes = ([], goes, Appends-nil wrote)

-- it breaks off where nothing was written
pub breaks_refused : {K : Type 0} {g : Ghosts K} (office office' : Office K g) (old new : Poll) (came coming : List Frame) (calm : Type 0) (wrote : Option (List ℕ)) (e : PollFault)
    → BreaksOff office old office' new came coming [] e → Breaks office old office' new came coming calm wrote wrote e
breaks_refused office office' old new came coming calm wrote e breaks = ([], breaks, λ _. Appends-nil wrote)

-- nothing was done, and it breaks off
pub breaks_still : {K : Type 0} {g : Ghosts K} (office : Office K g) (poll : Poll) (calm : Type 0) (wrote : Option (List ℕ)) (e : PollFault) → ((now : History) (conn : ℕ) → ClosedBy e now conn)
    → Breaks office poll office poll [] [] calm wrote wrote e
breaks_still office poll calm wrote e free = breaks_refused office office poll poll [] [] calm wrote e (stops_here office office poll poll [] [] [] e free (still office poll))

-- the queries were written, and then it broke off
pub breaks_later : {K : Type 0} {g : Ghosts K} (office office' : Office K g) (old new : Poll) (came : List Frame) (calm : Type 0) (wrote writes : Option (List ℕ)) (e : PollFault)
    → ((now : History) (conn : ℕ) → ClosedBy e now conn) → Handles office old office' new came wrote writes → Breaks office old office' new came [] calm wrote writes e
breaks_later office office' old new came calm wrote writes e free handles = (handles.0, stops_here office office' old new came handles.0 [] e free handles.1, λ _. handles.2)

-- a query was made, and its write failed
pub breaks_written : {K : Type 0} {g : Ghosts K} (office office' : Office K g) (old new : Poll) (sent : List Frame) (calm : Type 0) (wrote writes : Option (List ℕ)) (e : PollFault) → e ≡ fault.Line
    → GoesOn office old office' new [] sent → (calm → ⊥) → Breaks office old office' new [] [] calm wrote writes e
breaks_written office office' old new sent calm wrote writes e is goes failed =
    (sent, stops_here office office' old new [] sent [] e (λ now conn. subst (λ x. ClosedBy x now conn) (sym is) tt) goes, λ quiet. absurd (failed quiet))

module _ {K : Type 0} {g : Ghosts K} (office between office' : Office K g) (old halfway new : Poll) where
  -- one part after the other
  pub handles_then : (came came' : List Frame) (wrote writes written : Option (List ℕ)) → Handles office old between halfway came wrote writes
      → Handles between halfway office' new came' writes written → Handles office old office' new (came ++ came') wrote written
  handles_then came came' wrote writes written first second = (
    first.0 ++ second.0,
    then_on office between office' old halfway new came came' first.0 second.0 first.1 second.1,
    subst (Appends wrote written) (sym (flat_map-append spelled first.0 second.0))
        (Appends-trans wrote writes written (flat_map spelled first.0) (flat_map spelled second.0) first.2 second.2),
  )

  -- it breaks off after some parts
  pub breaks_after : (came came' coming : List Frame) (calm calm' : Type 0) (wrote writes written : Option (List ℕ)) (e : PollFault) → Handles office old between halfway came wrote writes
      → (calm → calm') → Breaks between halfway office' new came' coming calm' writes written e → Breaks office old office' new (came ++ came') coming calm wrote written e
  breaks_after came came' coming calm calm' wrote writes written e first quiet second = (
    first.0 ++ second.0,
    then_breaks office between office' old halfway new came came' coming first.0 second.0 e first.1 second.1,
    λ calm. subst (Appends wrote written) (sym (flat_map-append spelled first.0 second.0))
        (Appends-trans wrote writes written (flat_map spelled first.0) (flat_map spelled second.0) first.2 (second.2 (quiet calm))),
  )

-- more frames were to come than those that were named
pub breaks_with : {K : Type 0} {g : Ghosts K} (office office' : Office K g) (old new : Poll) (came coming later : List Frame) (calm : Type 0) (wrote writes : Option (List ℕ)) (e : PollFault)
    → Breaks office old office' new came coming calm wrote writes e → Breaks office old office' new came (coming ++ later) calm wrote writes e
breaks_with office office' old new came coming later calm wrote writes e breaks = (breaks.0, with_coming office office' old new came coming later breaks.0 e breaks.1, breaks.2)

-- ---- counts of failures

-- a failure isn't none
pub risen_not_calm : {T : Type 0} (old mid new : Counted T) → failures_of mid ≡ failures_of old → HasRisen (failures_of mid) (failures_of new) → NoneFailed old new → ⊥
risen_not_calm old mid new same risen calm =
    let up : failures_of mid < failures_of new = risen (omega (arith, same, calm.0)) in
    absurd (omega (arith, up, same, calm.1))

-- none from the middle on, where none failed before
pub calm_later : {T : Type 0} (old mid new : Counted T) → failures_of mid ≡ failures_of old → NoneFailed old new → NoneFailed mid new
calm_later old mid new same calm = (omega (arith, same, calm.0), omega (arith, same, calm.1))

pub risen_since : {T : Type 0} (old mid new : Counted T) → failures_of mid ≡ failures_of old → HasRisen (failures_of mid) (failures_of new) → HasRisen (failures_of old) (failures_of new)
risen_since old mid new same risen below = let up : failures_of mid < failures_of new = risen (omega (arith, same, below)) in omega (arith, up, same)

-- ---- lists of frames

-- a list, and an element and more
pub joined : {A : Type 0} (xs : List A) (x : A) (ys all : List A) → all ≡ xs ++ x ∷ [] → xs ++ x ∷ ys ≡ all ++ ys
joined xs x ys all is = sym (append_assoc xs (x ∷ []) ys) ∙ ap (λ l. l ++ ys) (sym is)
