use Rattle.std.proofs.Common.{◌≡◌, ◌++◌, ◌∷◌, [], Some, sym, ap, subst, ◌∙◌}
use Rattle.std.specs.Prelude.{Contains, map}
use Rattle.std.proofs.lemmas.List.{map-append}
use Rattle.std.proofs.lemmas.List.Elements.{All-weaker, All-pop}
use Rattle.poll_book.specs.declared.rows.ReadingRow.{ReadingRow}
use Rattle.poll_book.specs.Tables.{with_rows}
use Rattle.poll_book.specs.Changes.{as_row, as_rows}
use Rattle.poll_book.specs.Histories.{point_of, readings_of, HaveRoom}
use Rattle.poll_book.proofs.Tabled.{with_rows-append}
use Rattle.poll_book.proofs.histories.put_all.Goals as goal

pub loop-row-preserved : goal.loop-row-preserved
loop-row-preserved c =
    let rest = c.pop.new.self.items in
    let row = c.in-Some.row in
    let popped : c.loop-row.rows.items ≡ rest ++ row ∷ [] = c.in-Some.ensures.items in
    let Had = λ (r : ReadingRow). Contains (map point_of c.loop-row.histories.items) r.point in
    let Has = λ (r : ReadingRow). Contains (map point_of c.put_row.new.histories.items) r.point in
    let table = readings_of c.loop-row.histories.items in
    record {
      ordered = c.put_row.ensures.ordered;
      made = All-weaker Had Has (λ r. c.put_row.ensures.kept r.point) rest (All-pop Had c.loop-row.rows.items rest (Some row) popped c.loop-row.invariant.made).0;
      room = c.put_row.ensures.room rest (subst (HaveRoom c.loop-row.histories.items) popped c.loop-row.invariant.room);
      put =
          ap (with_rows (as_rows rest)) c.put_row.ensures.put
          ∙ sym (with_rows-append (as_rows rest) (as_row row ∷ []) table)
          ∙ ap (λ l. with_rows l table) (sym (map-append as_row rest (row ∷ [])))
          ∙ ap (λ l. with_rows (as_rows l) table) (sym popped)
          ∙ c.loop-row.invariant.put;
    }
