-- What httparse says of the bytes so far.
use Rattle.std.specs.Prelude.{ℕ, List}
use Rattle.httparse.specs.Grammar.{HasNoRequest}
use Rattle.httparse.specs.Spans.{IsRequestOf, IsRequestWithin, RequestOverflows}
use Rattle.httparse.specs.declared.spans.HeaderSpan.{HeaderSpan}
use Rattle.office_http.specs.Head.{field_limit}
use Rattle.office_http.specs.declared.head.Judged.TheVariants.{Partial, Refused, Whole}
use Rattle.office_http.specs.declared.head.Judged.{Judged as Verdict}

abbrev pub JudgedMeans : List ℕ → List HeaderSpan → Verdict → Type 0
JudgedMeans bytes headers Partial = HasNoRequest bytes
JudgedMeans bytes headers Refused = RequestOverflows field_limit bytes
JudgedMeans bytes headers (Whole spans) = IsRequestOf bytes headers spans × IsRequestWithin bytes headers spans
