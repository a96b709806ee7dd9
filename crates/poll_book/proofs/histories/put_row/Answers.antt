use Rattle.std.proofs.Common.{◌≡◌, ◌+◌, ◌≤◌, IfOk, get_or, vec_len, refl, sym, ap, subst, ◌∙◌}
use Rattle.std.specs.Prelude.{Contains, vec_capacity}
use Rattle.std.proofs.lemmas.List.{get_or_default}
use Rattle.poll_book.specs.declared.history.History.{History}
use Rattle.poll_book.specs.declared.rows.Reading.{Reading}
use Rattle.poll_book.specs.Tables.{with_row}
use Rattle.poll_book.specs.Histories.{point_of, slots_of, IsAt}
use Rattle.poll_book.proofs.Puts.{put_history}
use Rattle.poll_book.proofs.Rooms.{points_set, ordered_set, room_put}
use Rattle.poll_book.proofs.histories.put_row.Goals as goal

here : (c : goal.After-histories-1) → IsAt point_of c.args.histories.now.items c.args.row.point c.unwrap-place.result
here c =
    subst (λ l. IsAt point_of l c.args.row.point c.unwrap-place.result) c.deref.ensures.value
    (subst (λ r. IfOk r (IsAt point_of c.deref.result.now c.args.row.point)) c.unwrap-place.ensures c.history_place.ensures.found)

old_is : (c : goal.After-histories-1) → c.index_mut.result.now ≡ get_or c.args.histories.now.items c.unwrap-place.result c.put.new.self
old_is c = c.index_mut.ensures.value ∙ get_or_default c.args.histories.now.items c.unwrap-place.result c.index_mut.result.now c.put.new.self (here c).in_range

old_point : (c : goal.After-histories-1) → c.index_mut.result.now.point ≡ c.args.row.point
old_point c = ap point_of (old_is c) ∙ (here c).same c.put.new.self

same : (c : goal.After-histories-1) → c.put.new.self.point ≡ c.args.row.point
same c = c.put.ensures.point ∙ old_point c

pub returns-clause-ordered : goal.returns-clause-ordered
returns-clause-ordered c =
    ordered_set c.args.histories.now.items c.args.row.point c.unwrap-place.result c.put.new.self (here c) (same c) c.requires.ordered c.put.ensures.rising c.put.ensures.small

pub returns-clause-put : goal.returns-clause-put
returns-clause-put c =
    let row = c.args.row in
    let reading : Reading = record { words = row.words; counted = row.counted } in
    put_history row.point row.slot reading c.args.histories.now.items c.unwrap-place.result c.put.new.self (here c) (same c)
    (sym (ap (λ q. slots_of q c.put.new.self.slots.items) (same c)) ∙ c.put.ensures.put
    ∙ ap (λ q. with_row (q, row.slot) reading (slots_of q c.index_mut.result.now.slots.items)) (old_point c)
    ∙ ap (λ (h : History). with_row (row.point, row.slot) reading (slots_of row.point h.slots.items)) (old_is c))

pub returns-clause-kept : goal.returns-clause-kept
returns-clause-kept c q had =
    subst (λ ks. Contains ks q) (sym (points_set c.args.histories.now.items c.args.row.point c.unwrap-place.result c.put.new.self (here c) (same c))) had

pub returns-clause-room : goal.returns-clause-room
returns-clause-room c rows room =
    room_put c.args.histories.now.items c.args.row.point c.unwrap-place.result c.put.new.self (here c) (same c) rows c.args.row refl room
    (subst (λ (h : History). vec_len c.put.new.self.slots ≤ vec_len h.slots + 1) (old_is c) c.put.ensures.longer)
    (subst (λ (h : History). vec_capacity h.slots ≤ vec_capacity c.put.new.self.slots) (old_is c) c.put.ensures.capacity)
