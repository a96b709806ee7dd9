use Rattle.std.proofs.Common.{◌≡◌, ◌≤◌, ◌∙◌, true, rules, arith, sym}
use Rattle.std.proofs.lemmas.List.Elements.{All-push}
use Rattle.std.specs.Result.{is_ok}
use Rattle.toml_members.specs.Members.{number_in}
use Rattle.toml_members.proofs.Each.{each_more, each_fails, each_ends}
use Rattle.mb_map.proofs.image.numbers_in.Goals as goal

pub returns-in-Err-clause-gives : goal.returns-in-Err-clause-gives
returns-in-Err-clause-gives c =
    let vs = c.args.entries.now in
    let i = c.loop-index.index in
    let none = rw c.from.ensures at c.in-Err.ensures.none in
    sym c.loop-index.invariant.read ∙ each_fails (number_in c.args.greatest) c.loop-index.numbers.items vs i c.index-entries-index.result (omega arith) c.index-entries-index.is none

pub loop-index-preserved : goal.loop-index-preserved
loop-index-preserved c =
    let vs = c.args.entries.now in
    let i = c.loop-index.index in
    let good : is_ok c.push.result ≡ true = search rules in
    let items = rw good at c.push.ensures.items in
    let found = rw c.from.ensures at c.in-Ok.ensures.number in
    let more = each_more (number_in c.args.greatest) c.loop-index.numbers.items vs i c.index-entries-index.result c.in-Ok.number (omega arith) c.index-entries-index.is found in
    let within = rw c.from.ensures at c.in-Ok.ensures.within in
    rw items (record { read = sym more ∙ c.loop-index.invariant.read; sound = All-push (λ n. n ≤ c.args.greatest) c.loop-index.numbers.items c.in-Ok.number c.loop-index.invariant.sound within })

pub returns-clause-gives : goal.returns-clause-gives
returns-clause-gives c = sym c.loop-index.invariant.read ∙ each_ends (number_in c.args.greatest) c.loop-index.numbers.items c.args.entries.now c.loop-index.index (omega arith)
