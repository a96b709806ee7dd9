use Rattle.std.proofs.Common.{Some, sym, ap, ◌∙◌, subst, T}
use Rattle.std.specs.Int.{w128}
use Rattle.std.proofs.lemmas.Int.{to_z-of_z}
use Rattle.std.proofs.lemmas.Bool.{lt-ltb}
use Rattle.std.proofs.Math.Facts.{sfits_lit}
use Rattle.poll_book.specs.declared.requests.Body.TheVariants.{Order}
use Rattle.office_store.proofs.Spoken.{order_coded}
use Rattle.office_store.proofs.requests.order_of.Goals as goal

pub returns : goal.returns
returns c =
    let cut = c.in-Some.ensures.cases in
    let name = c.in-Ok.ensures.cases in
    order_coded c.args.bytes.now c.in-Some.value.now c.in-Some.name.now c.from_string.result c.from_be_bytes.result cut.0 cut.1 cut.2 name.1 (c.from_string.ensures ∙ c.in_ok-from_str.ensures.ok ∙ name.0) c.from_be_bytes.ensures
    ∙ ap (λ v. Some (Order c.from_string.result v)) (sym (to_z-of_z w128 c.from_be_bytes.result (sfits_lit (subst T (sym (lt-ltb _ _ c.from_be_bytes.type_inv)) tt))))
