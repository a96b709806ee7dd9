-- From the front of the bytes to what all of them mean.
use Rattle.std.proofs.Common.{◌≡◌, ◌≢◌, ℕ, zero, suc, ◌+◌, ◌<◌, ◌≤◌, inl, inr, ◌⊎◌, List, [], ◌∷◌, ◌++◌, length, take, drop, refl, sym, ap, ◌∙◌, arith, subst, Option, Some, None, length-append, length-take, append_assoc, map}
use Rattle.std.specs.Prelude.{min}
use Rattle.std.proofs.lemmas.List.{length-drop, length-map, take-append-le, take-append-drop, take_all}
use Rattle.std.proofs.Math.Seq.{take-append_seam}
use Rattle.httparse.specs.Grammar.{ReadsRequest, RequestHead, print_request, HasNoRequest}
use Rattle.httparse.specs.Spans.{IsRequestAt, IsRequestOf, IsRequestWithin, RequestOverflows, name_and_value, header_bytes}
use Rattle.httparse.specs.declared.spans.HeaderSpan.{HeaderSpan}
use Rattle.httparse.specs.declared.spans.RequestSpans.{RequestSpans}
use Rattle.httparse.proofs.GrammarLemmas.{ReadsRequest-append, request_unique}
use Rattle.office_http.specs.declared.heard.Refusal.TheVariants.{BadRequest}
use Rattle.office_http.specs.declared.routes.Routes.{Routes}
use Rattle.office_http.specs.Head.{BeginsWithHead, HasHead}
use Rattle.office_http.specs.Heads.{IsAsked}
use Rattle.office_http.specs.Meanings.{Meaning, refused, asked_of, with_body}
use Rattle.office_http.specs.Deciding.{Decides, IsWhole, Lacks}
use Rattle.office_http.specs.declared.fields.Length.TheVariants.{Of}
use Rattle.office_http.specs.Awaiting.{Asks}
use Rattle.office_http.proofs.WholeBodies.{body_lacks, body_whole}
use Rattle.std.proofs.lemmas.Bool.{cases_lt}
use Rattle.std.proofs.lemmas.Option.{none-some}
use Rattle.office_http.proofs.OnePlace.{names_once}

-- a head in the front of the bytes is the head of all of them
has_head : (front more : List ℕ) (headers : List HeaderSpan) (spans : RequestSpans) (h : RequestHead) → length front ≤ 8192 → length headers ≤ 32 → IsRequestAt front headers spans h → IsRequestWithin front headers spans
    → HasHead (front ++ more) h (drop spans.len front ++ more)
has_head front more headers spans h short few at within =
    let count = ap length at.fields in
    let len = at.len in
    let fits = within.section.len_fits in
    record {
      reads = ReadsRequest-append front h (drop spans.len front) more at.reads;
      short = omega (arith, len, fits, short);
      few = omega (arith, count, length-map (take spans.headers headers) (header_bytes front), length-map h.fields name_and_value, length-take spans.headers headers, few);
    }

drop_front : (n : ℕ) (xs ys : List ℕ) → n ≤ length xs → drop n (xs ++ ys) ≡ drop n xs ++ ys
drop_front zero xs ys le = refl
drop_front (suc n) [] ys le = absurd (omega (arith, le))
drop_front (suc n) (x ∷ xs) ys le = drop_front n xs ys (omega (arith, le))

-- the same, of bytes whose first so many are the front
has_head_in : (bytes : List ℕ) (n : ℕ) (headers : List HeaderSpan) (spans : RequestSpans) (h : RequestHead) → n ≤ 8192 → length headers ≤ 32 → IsRequestAt (take n bytes) headers spans h → IsRequestWithin (take n bytes) headers spans
    → HasHead bytes h (drop spans.len bytes)
has_head_in bytes n headers spans h limit few at within =
    let front = take n bytes in
    let tail = drop n bytes in
    let whole : bytes ≡ front ++ tail = sym (take-append-drop n bytes) in
    let short : length front ≤ 8192 = omega (arith, length-take n bytes, limit) in
    let fits = within.section.len_fits in
    let behind : drop spans.len bytes ≡ drop spans.len front ++ tail = ap (drop spans.len) whole ∙ drop_front spans.len front tail fits in
    let P : List ℕ → Type 0 = λ b. HasHead b h (drop spans.len bytes) in
    let Q : List ℕ → Type 0 = λ r. HasHead (front ++ tail) h r in
    subst P (sym whole) (subst Q (sym behind) (has_head front tail headers spans h short few at within))

-- the head of bytes is that of these and more
has_more : (bytes more : List ℕ) (h : RequestHead) (rest : List ℕ) → HasHead bytes h rest → HasHead (bytes ++ more) h (rest ++ more)
has_more bytes more h rest has = record { reads = ReadsRequest-append bytes h rest more has.reads; short = has.short; few = has.few }

-- whatever a whole head asks for, another head that reads the same asks for too
pub asked_once : (routes : Routes) (input : List ℕ) (h g : RequestHead) (rest more : List ℕ) (a b : Option Meaning) → ReadsRequest input h rest → ReadsRequest input g more → IsAsked routes h rest a → IsAsked routes g more b → a ≡ b
asked_once routes input h g rest more a b reads others one two =
    let same = request_unique input h g rest more reads others in
    let P : RequestHead → Type 0 = λ k. IsAsked routes k more b in
    let Q : List ℕ → Type 0 = λ r. IsAsked routes h r b in
    let it = subst Q (sym same.1) (subst P (sym same.0) two) in
    let place = names_once routes h.target one.place it.place one.names it.names in
    sym one.is ∙ ap (λ p. asked_of p h.method (map name_and_value h.fields) rest) place ∙ it.is

head_not_empty : (h : RequestHead) → 0 < length h.target → 0 < length (print_request h)
unfolding print_request
head_not_empty h some = grind (arith, length-append, some)

-- no bytes begin with a head
pub headless_empty : BeginsWithHead [] → ⊥
headless_empty begins =
    let reads = begins.2.reads in
    let n = head_not_empty begins.0 reads.0.target.0 in
    let l = length-append (print_request begins.0) begins.1 in
    let e = ap length reads.1 in
    omega (arith, n, l, e)

-- bytes that begin with no head hold no whole request
pub lacks_headless : (routes : Routes) (bytes : List ℕ) → (BeginsWithHead bytes → ⊥) → Lacks routes bytes
lacks_headless routes bytes none = λ m w. none (w.head, w.rest, w.has)

pub lacks_none : (routes : Routes) (bytes : List ℕ) → length bytes ≡ 0 → Lacks routes bytes
lacks_none routes [] none = lacks_headless routes [] headless_empty
lacks_none routes (byte ∷ bytes) none = absurd (omega (arith, none))

-- ---- what a head at the front asks for

-- a front that has one
pub asks_in : (routes : Routes) (bytes : List ℕ) (n : ℕ) (headers : List HeaderSpan) (spans : RequestSpans) (asked : List ℕ → Option Meaning) → n ≤ 8192 → length headers ≤ 32
    → IsRequestOf (take n bytes) headers spans → IsRequestWithin (take n bytes) headers spans
    → ((h : RequestHead) → IsRequestAt (take n bytes) headers spans h → (rest : List ℕ) → IsAsked routes h rest (asked rest)) → Asks routes bytes spans.len asked
asks_in routes bytes n headers spans asked limit few of within asks = record {
  inside = let fits = within.section.len_fits in omega (arith, fits, length-take n bytes);
  head = of.0;
  has = has_head_in bytes n headers spans of.0 limit few of.1 within;
  asks = asks of.0 of.1;
}

module _ (routes : Routes) (bytes : List ℕ) (len : ℕ) (asked : List ℕ → Option Meaning) (asks : Asks routes bytes len asked) where
  pub asks_headed : BeginsWithHead bytes
  asks_headed = (asks.head, drop len bytes, asks.has)

  -- more bytes change nothing of it
  pub asks_more : (more : List ℕ) → Asks routes (bytes ++ more) len asked
  asks_more more = record {
    inside = let inside = asks.inside in omega (arith, inside, length-append bytes more);
    head = asks.head;
    has = subst (λ (rest : List ℕ). HasHead (bytes ++ more) asks.head rest) (sym (drop_front len bytes more asks.inside)) (has_more bytes more asks.head (drop len bytes) asks.has);
    asks = asks.asks;
  }

  asks_whole : (m : Meaning) → asked (drop len bytes) ≡ Some m → IsWhole routes bytes m
  asks_whole m is = record {
    head = asks.head;
    rest = drop len bytes;
    has = asks.has;
    asked = subst (IsAsked routes asks.head (drop len bytes)) is (asks.asks (drop len bytes));
  }

  asks_none : asked (drop len bytes) ≡ None → Lacks routes bytes
  asks_none is = λ m w.
      let none = subst (IsAsked routes asks.head (drop len bytes)) is (asks.asks (drop len bytes)) in
      none-some m (asked_once routes bytes asks.head w.head (drop len bytes) w.rest None (Some m) asks.has.reads w.has.reads none w.asked)

-- what is asked for whatever stands behind the head
pub decides_known : (routes : Routes) (bytes : List ℕ) (len : ℕ) (asked : List ℕ → Option Meaning) (m : Meaning) → ((rest : List ℕ) → asked rest ≡ Some m) → Asks routes bytes len asked → Decides routes bytes m
decides_known routes bytes len asked m is asks = λ more. inl (asks_whole routes (bytes ++ more) len asked (asks_more routes bytes len asked asks more) m (is (drop len (bytes ++ more))))

module _ (routes : Routes) (bytes : List ℕ) (start count : ℕ) (make : List ℕ → Meaning) (asks : Asks routes bytes start (λ rest. with_body make rest (Of count))) where
  -- a body that is there
  pub decides_body : start + count ≤ length bytes → Decides routes bytes (make (take count (drop start bytes)))
  decides_body enough = λ more.
      let behind : count ≤ length (drop start bytes) = omega (arith, enough, length-drop start bytes) in
      let asked : List ℕ → Option Meaning = λ rest. with_body make rest (Of count) in
      let is = ap asked (drop_front start bytes more asks.inside) ∙ body_whole make count (drop start bytes) more behind in
      inl (asks_whole routes (bytes ++ more) start asked (asks_more routes bytes start asked asks more) (make (take count (drop start bytes))) is)

  -- and one that lacks bytes
  pub lacks_body : length bytes < start + count → Lacks routes bytes
  lacks_body few =
      let inside = asks.inside in
      let behind : length (drop start bytes) < count = omega (arith, few, inside, length-drop start bytes) in
      asks_none routes bytes start (λ rest. with_body make rest (Of count)) asks (body_lacks make count (drop start bytes) behind)

-- ---- what a front without a head is

some_bytes : (bytes more : List ℕ) → 0 < length bytes → bytes ++ more ≢ []
some_bytes bytes more some = λ e. let n = ap length e in omega (arith, n, some, length-append bytes more)

-- no head within the limits begins with a full front without one
pub headless_full : (front tail : List ℕ) (h : RequestHead) (rest : List ℕ) → length front ≡ 8192 → HasNoRequest front → HasHead (front ++ tail) h rest → ⊥
headless_full front tail h rest full none has =
    let k = length (print_request h) in
    let short = has.short in
    let first : take k front ≡ print_request h =
    sym (take-append-le k front tail (omega (arith, short, full))) ∙ ap (take k) has.reads.1 ∙ take-append_seam (print_request h) rest in
    let whole : front ≡ print_request h ++ drop k front = sym (take-append-drop k front) ∙ ap (λ x. x ++ drop k front) first in
    none h (drop k front) (has.reads.0, whole)

-- nor with one that overflows
pub headless_refused : (front tail : List ℕ) (h : RequestHead) (rest : List ℕ) → RequestOverflows 32 front → HasHead (front ++ tail) h rest → ⊥
headless_refused front tail h rest over has =
    let many = over tail h rest has.reads in
    let few = has.few in
    omega (arith, many, few)

-- what bytes and more begin with, the front begins, the rest and more behind it
in_more : (bytes : List ℕ) (n : ℕ) (more : List ℕ) (h : RequestHead) (rest : List ℕ) → HasHead (bytes ++ more) h rest → HasHead (take n bytes ++ (drop n bytes ++ more)) h rest
in_more bytes n more h rest has =
    let input : bytes ++ more ≡ take n bytes ++ (drop n bytes ++ more) =
    ap (λ b. b ++ more) (sym (take-append-drop n bytes)) ∙ append_assoc (take n bytes) (drop n bytes) more in
    subst (λ b. HasHead b h rest) input has

-- bytes, whose front is judged, begin with no head
in_front : (bytes : List ℕ) (n : ℕ) (h : RequestHead) (rest : List ℕ) → HasHead bytes h rest → HasHead (take n bytes ++ drop n bytes) h rest
in_front bytes n h rest has = subst (λ b. HasHead b h rest) (sym (take-append-drop n bytes)) has

-- the front of that length is all of the bytes, or full
whole_or_full : (bytes : List ℕ) (n : ℕ) → n ≡ min (length bytes) 8192 → (length bytes < 8192) ⊎ (8192 ≤ length bytes) → (length bytes ≤ n) ⊎ (length (take n bytes) ≡ 8192)
whole_or_full bytes n is (inl less) = inl (omega (arith, is, less))
whole_or_full bytes n is (inr more) = inr (omega (arith, is, more, length-take n bytes))

pub front_whole_or_full : (bytes : List ℕ) (n : ℕ) → n ≡ min (length bytes) 8192 → (length bytes ≤ n) ⊎ (length (take n bytes) ≡ 8192)
front_whole_or_full bytes n is = whole_or_full bytes n is (cases_lt (length bytes) 8192)

pub headless : (bytes : List ℕ) (n : ℕ) → (length bytes ≤ n) ⊎ (length (take n bytes) ≡ 8192) → HasNoRequest (take n bytes) → BeginsWithHead bytes → ⊥
headless bytes n (inl all) none begins =
    let P : List ℕ → Type 0 = HasNoRequest in
    subst P (take_all n bytes all) none begins.0 begins.1 begins.2.reads
headless bytes n (inr full) none begins = headless_full (take n bytes) (drop n bytes) begins.0 begins.1 full none (in_front bytes n begins.0 begins.1 begins.2)

pub headless_over : (bytes : List ℕ) (n : ℕ) → RequestOverflows 32 (take n bytes) → BeginsWithHead bytes → ⊥
headless_over bytes n over begins = headless_refused (take n bytes) (drop n bytes) begins.0 begins.1 over (in_front bytes n begins.0 begins.1 begins.2)

-- a full front without a head: whatever follows, the request is bad
pub decided_full : (routes : Routes) (bytes : List ℕ) (n : ℕ) → 0 < length bytes → length (take n bytes) ≡ 8192 → HasNoRequest (take n bytes) → Decides routes bytes (refused BadRequest)
decided_full routes bytes n some full none = λ more. inr (
  λ m w. headless_full (take n bytes) (drop n bytes ++ more) w.head w.rest full none (in_more bytes n more w.head w.rest w.has),
  inr (some_bytes bytes more some, refl),
)

-- a front that no head within the limits begins: the same
pub decided_refused : (routes : Routes) (bytes : List ℕ) (n : ℕ) → 0 < length bytes → RequestOverflows 32 (take n bytes) → Decides routes bytes (refused BadRequest)
decided_refused routes bytes n some over = λ more. inr (
  λ m w. headless_refused (take n bytes) (drop n bytes ++ more) w.head w.rest over (in_more bytes n more w.head w.rest w.has),
  inr (some_bytes bytes more some, refl),
)
