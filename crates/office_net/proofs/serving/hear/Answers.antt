use Rattle.std.proofs.Common.{◌≡◌, ◌∙◌, ◌++◌, ap, arith, inl, inr, List, ℕ, Option, Some, subst, take}
use Rattle.std.proofs.lemmas.List.{append-nil}
use Rattle.std.specs.Io.KnownBytes.{Consumes}
use Rattle.std.proofs.KnownBytes.{Consumes-trans}
use Rattle.mb_mbap.specs.Counted.{HasRisen, ends_of, inner_of}
use Rattle.office_http.specs.declared.heard.Heard.{Heard}
use Rattle.office_http.specs.declared.routes.Routes.{Routes}
use Rattle.office_http.specs.declared.routes.Routes.TheVariants.{Basic}
use Rattle.office_http.specs.Deciding.{Decides, Means}
use Rattle.office_http.specs.Exchanges.{bytes_of}
use Rattle.office_http.specs.Heard.{meaning_of}
use Rattle.office_http.specs.Judging.{Judges}
use Rattle.office_net.proofs.serving.hear.Goals as goal

pub returns-in-Err-clause-hears : goal.returns-in-Err-clause-hears
returns-in-Err-clause-hears g c =
    let piece = take c.in_ok-count.count c.read_piece.new.piece in
    record {
      bytes = bytes_of c.pieces.exchange ++ piece;
      read = Consumes-trans (g.R.Read.remaining (inner_of c.args.reader.now)) (g.R.Read.remaining (inner_of c.pieces.reader)) (g.R.Read.remaining (inner_of c.read_piece.new.reader))
          (bytes_of c.pieces.exchange) piece c.pieces.invariant.read c.in_ok-count.ensures.bytes;
      asked = λ asked none. absurd (cc);
    }

pub returns-in-Ok-Some-clause-hears : goal.returns-in-Ok-Some-clause-hears
returns-in-Ok-Some-clause-hears g c =
    let piece = take c.in_ok-count.count c.read_piece.new.piece in
    let heard = c.in-Ok-Some.asked in
    let judged = subst (λ (told : Option Heard). Judges Basic (bytes_of c.take.new.self) told) c.in-Ok-Some.field-0-is
    (subst (λ (routes : Routes). Judges routes (bytes_of c.take.new.self) c.in-Ok-Some.field-0) (c.in-Ok-Some.ensures.same ∙ c.pieces.invariant.routes) c.in-Ok-Some.ensures.asked) in
    let decides = subst (λ (bytes : List ℕ). Decides Basic bytes (meaning_of heard)) c.in-Ok-Some.ensures.taken judged in
    let same : (asked : Heard) → Some heard ≡ Some asked → heard ≡ asked = λ asked is. cc in
    record {
      bytes = bytes_of c.pieces.exchange ++ piece;
      read = Consumes-trans (g.R.Read.remaining (inner_of c.args.reader.now)) (g.R.Read.remaining (inner_of c.pieces.reader)) (g.R.Read.remaining (inner_of c.read_piece.new.reader))
          (bytes_of c.pieces.exchange) piece c.pieces.invariant.read c.in_ok-count.ensures.bytes;
      asked = λ asked is. inl (subst (λ (some : Heard). Decides Basic (bytes_of c.pieces.exchange ++ piece) (meaning_of some)) (same asked is) decides);
    }

pub returns-then-count-eq0-clause-hears : goal.returns-then-count-eq0-clause-hears
returns-then-count-eq0-clause-hears g c =
    let bytes = bytes_of c.pieces.exchange in
    let none = c.if-count-eq0.true in
    let ended = c.in_ok-count.ensures.ended none (let has = c.pieces.invariant.room in omega (arith, has)) in
    let rest : bytes ++ take c.in_ok-count.count c.read_piece.new.piece ≡ bytes = ap (λ (n : ℕ). bytes ++ take n c.read_piece.new.piece) none ∙ append-nil bytes in
    let means = subst (λ (routes : Routes). Means routes bytes (meaning_of c.end.result)) c.pieces.invariant.routes (c.end.ensures c.pieces.invariant.lacks) in
    let same : (asked : Heard) → Some c.end.result ≡ Some asked → c.end.result ≡ asked = λ asked is. cc in
    record {
      bytes = bytes;
      read = subst (Consumes (g.R.Read.remaining (inner_of c.args.reader.now)) (g.R.Read.remaining (inner_of c.read_piece.new.reader))) rest
          (Consumes-trans (g.R.Read.remaining (inner_of c.args.reader.now)) (g.R.Read.remaining (inner_of c.pieces.reader)) (g.R.Read.remaining (inner_of c.read_piece.new.reader))
          bytes (take c.in_ok-count.count c.read_piece.new.piece) c.pieces.invariant.read c.in_ok-count.ensures.bytes);
      asked = λ asked is. inr (
        subst (λ (before : ℕ). HasRisen before (ends_of c.read_piece.new.reader)) c.pieces.invariant.going ended,
        subst (λ (some : Heard). Means Basic bytes (meaning_of some)) (same asked is) means,
      );
    }
