use Rattle.std.proofs.Common.{◌≡◌, ◌∙◌, length, map, filter, sym, ap, rules}
use Rattle.std.proofs.lemmas.Fn.{filter_same}
use Rattle.std.proofs.lemmas.List.{length-map, with_items_is}
use Rattle.mb_map.specs.Queue.{closer, is_later}
use Rattle.mb_map.proofs.Left.{closer_left, later_left}
use Rattle.mb_map.proofs.queue.bring_closer.Goals as goal

pub count_down-requires : goal.count_down-requires
count_down-requires c =
    let kept : c.retain.new.self.items ≡ filter is_later c.args.held.now.items = filter_same _ is_later _ (λ x b f' k. search rules) _ _ c.retain.ensures.filtered in
    rw (c.as_mut_slice.ensures.value, kept) (later_left c.args.held.now.items c.requires)

pub returns-clause-left : goal.returns-clause-left
returns-clause-left c =
    let hs = c.args.held.now.items in
    let kept : c.retain.new.self.items ≡ filter is_later hs = filter_same _ is_later _ (λ x b f' k. search rules) _ _ c.retain.ensures.filtered in
    let down : c.count_down.new.held ≡ map closer (filter is_later hs) = c.count_down.ensures ∙ ap (map closer) (c.as_mut_slice.ensures.value ∙ kept) in
    let size : length c.count_down.new.held ≡ c.retain.new.self.len = ap length (c.count_down.ensures ∙ ap (map closer) c.as_mut_slice.ensures.value) ∙ length-map c.retain.new.self.items closer ∙ sym c.retain.new.self.ok.0 in
    rw (with_items_is c.retain.new.self c.count_down.new.held size ∙ down) (closer_left hs c.requires)

pub returns-clause-held : goal.returns-clause-held
returns-clause-held c =
    let hs = c.args.held.now.items in
    let kept : c.retain.new.self.items ≡ filter is_later hs = filter_same _ is_later _ (λ x b f' k. search rules) _ _ c.retain.ensures.filtered in
    let down : c.count_down.new.held ≡ map closer (filter is_later hs) = c.count_down.ensures ∙ ap (map closer) (c.as_mut_slice.ensures.value ∙ kept) in
    let size : length c.count_down.new.held ≡ c.retain.new.self.len = ap length (c.count_down.ensures ∙ ap (map closer) c.as_mut_slice.ensures.value) ∙ length-map c.retain.new.self.items closer ∙ sym c.retain.new.self.ok.0 in
    with_items_is c.retain.new.self c.count_down.new.held size ∙ down
