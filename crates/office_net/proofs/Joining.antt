-- One part of a round after the other.
use Rattle.std.proofs.Common.{ℕ, List, [], ◌++◌, Option, Some, None, sym, ap, ◌∙◌, subst, append_assoc}
use Rattle.std.proofs.lemmas.List.{append-nil}
use Rattle.mb_mbap.specs.declared.frame.Frame.{Frame}
use Rattle.poll_book.specs.declared.keeper.Neighbours.{Ghosts}
use Rattle.poll_book.specs.Tables.{Tables}
use Rattle.office_core.specs.declared.office.Office.{Office}
use Rattle.office_core.specs.History.{History}
use Rattle.office_net.specs.declared.fault.PollFault.{PollFault}
use Rattle.office_net.specs.declared.machine.Poll.{Poll}
use Rattle.office_net.specs.Faults.{ClosedBy}
use Rattle.office_core.specs.Following.{Follows, MayLeave}
use Rattle.office_net.specs.Moves.{Start, Move, Asks, Passes, Comes, told, frames_in, queries_in, LeftTrying}
use Rattle.office_net.specs.Stages.{IsAfter, GoesOn, BreaksOff, Ends, IsNext, Leads, LeftSince}
use Rattle.office_net.proofs.Crashing.{since_more, since_then, trying_more}

module _ (between stands : History → Type 0) (might mid may : Tables → Type 0) (start : Start) (moves : List Move) (halfway new : Poll) (came came' sent sent' : List Frame) where
  abbrev pub leads_then : (tried : Option Move) → (first : Leads between might mid start moves halfway came sent None) → Leads stands mid may start (first.more ++ moves) new came' sent' tried
      → Leads stands might may start moves new (came ++ came') (sent ++ sent') tried
  leads_then tried first second = record {
    more = second.more ++ first.more;
    follows = subst (λ (all : List Move). stands (told start all)) (sym (append_assoc second.more first.more moves)) second.follows;
    frames_are = ap frames_in (append_assoc second.more first.more moves) ∙ second.frames_are ∙ ap (λ l. l ++ came') first.frames_are ∙ append_assoc (frames_in moves) came came';
    queries_are = ap (queries_in start) (append_assoc second.more first.more moves) ∙ second.queries_are ∙ ap (λ l. l ++ sent') first.queries_are ∙ append_assoc (queries_in start moves) sent sent';
    after = subst (λ (all : List Move). IsAfter start all new) (sym (append_assoc second.more first.more moves)) second.after;
    leaves = λ left m.
        subst (λ (all : List Move). LeftTrying (LeftSince might start (second.more ++ first.more) moves) start all tried left) (sym (append_assoc second.more first.more moves))
        (trying_more (LeftSince mid start second.more (first.more ++ moves)) (LeftSince might start (second.more ++ first.more) moves) start (second.more ++ (first.more ++ moves)) tried
        (λ k l. since_then might start second.more first.more moves k
        (since_more mid (LeftSince might start first.more moves) start second.more (first.more ++ moves) first.leaves k l))
        left (second.leaves left m));
  }

  pub ends_then : (coming : List Frame) (fault : PollFault) → (first : Leads between might mid start moves halfway came sent None)
      → Ends stands mid may start (first.more ++ moves) new came' coming sent' fault → Ends stands might may start moves new (came ++ came') coming (sent ++ sent') fault
  ends_then coming fault first second = record {
    tried = second.tried;
    leads = leads_then second.tried first second.leads;
    next = subst (λ (all : List Move). IsNext start all coming second.tried) (sym (append_assoc second.leads.more first.more moves)) second.next;
    closed = subst (λ (all : List Move). ClosedBy fault (told start all) start.conn) (sym (append_assoc second.leads.more first.more moves)) second.closed;
  }

-- more frames were to come than those that were named
next_of_more : (start : Start) (moves : List Move) (coming later : List Frame) (tried : Option Move) → IsNext start moves coming tried → IsNext start moves (coming ++ later) tried
next_of_more start moves coming later None next = tt
next_of_more start moves coming later (Some (Asks job)) next = next
next_of_more start moves coming later (Some (Passes job)) next = next
next_of_more start moves coming later (Some (Comes frame)) next = (next.0 ++ later, ap (λ l. l ++ later) next.1)

module _ {K : Type 0} {g : Ghosts K} (office between office' : Office K g) (old halfway new : Poll) where
  pub then_on : (came came' sent sent' : List Frame) → GoesOn office old between halfway came sent → GoesOn between halfway office' new came' sent'
      → GoesOn office old office' new (came ++ came') (sent ++ sent')
  then_on came came' sent sent' first second start moves follows after =
      let one = first start moves follows after in
      leads_then (Follows between) (Follows office') (MayLeave office) (MayLeave between) (MayLeave office') start moves halfway new came came' sent sent' None one
      (second start (one.more ++ moves) one.follows one.after)

  pub then_breaks : (came came' coming sent sent' : List Frame) (fault : PollFault) → GoesOn office old between halfway came sent → BreaksOff between halfway office' new came' coming sent' fault
      → BreaksOff office old office' new (came ++ came') coming (sent ++ sent') fault
  then_breaks came came' coming sent sent' fault first second start moves can follows after =
      let one = first start moves follows after in
      ends_then (Follows between) (Follows office') (MayLeave office) (MayLeave between) (MayLeave office') start moves halfway new came came' sent sent' coming fault one
      (second start (one.more ++ moves) can one.follows one.after)

-- it breaks off where nothing was refused
pub stops_here : {K : Type 0} {g : Ghosts K} (office office' : Office K g) (old new : Poll) (came sent coming : List Frame) (fault : PollFault) → ((now : History) (conn : ℕ) → ClosedBy fault now conn)
    → GoesOn office old office' new came sent → BreaksOff office old office' new came coming sent fault
stops_here office office' old new came sent coming fault free goes start moves can follows after =
    let leads = goes start moves follows after in
    record { tried = None; leads = leads; next = tt; closed = free (told start (leads.more ++ moves)) start.conn }

pub with_coming : {K : Type 0} {g : Ghosts K} (office office' : Office K g) (old new : Poll) (came coming later sent : List Frame) (fault : PollFault)
    → BreaksOff office old office' new came coming sent fault → BreaksOff office old office' new came (coming ++ later) sent fault
with_coming office office' old new came coming later sent fault breaks start moves can follows after =
    let ends = breaks start moves can follows after in
    record { tried = ends.tried; leads = ends.leads; next = next_of_more start (ends.leads.more ++ moves) coming later ends.tried ends.next; closed = ends.closed }

-- nothing was done
pub still : {K : Type 0} {g : Ghosts K} (office : Office K g) (poll : Poll) → GoesOn office poll office poll [] []
still office poll start moves follows after = record {
  more = [];
  follows = follows;
  frames_are = sym (append-nil (frames_in moves));
  queries_are = sym (append-nil (queries_in start moves));
  after = after;
  leaves = λ left m. m;
}
