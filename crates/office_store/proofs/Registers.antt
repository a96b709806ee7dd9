-- Registers, and the bytes that they are kept as.
use Rattle.std.proofs.Common.{◌≡◌, ℕ, suc, ◌+◌, ◌-◌, ◌*◌, ◌<◌, ◌≤◌, List, [], ◌∷◌, ◌++◌, length, take, drop, get_or, None, Some, Option, option_map, refl, sym, ap, ◌∙◌, arith, slice_set, true, ◌/◌, ◌%◌, nat_lt}
use Rattle.std.specs.Prelude.{nat_le}
use Rattle.std.proofs.lemmas.Bool.{lt-ltb, le-leb}
use Rattle.sqlite_value.specs.declared.value.Value.TheVariants.{Blob}
use Rattle.std.proofs.Math.Seq.{take-suc-set}
use Rattle.std.proofs.lemmas.List.{append_assoc, take_all, take_more, length-set}
use Rattle.office_store.specs.Rows.{registers_in, register_bytes, words_of}

abbrev pub after : List ℕ → List ℕ → Option (List ℕ)
after done left = option_map (λ words. done ++ words) (registers_in left)

map_twice : (done : List ℕ) (w : ℕ) (o : Option (List ℕ)) → option_map (λ words. done ++ words) (option_map (λ words. w ∷ words) o) ≡ option_map (λ words. (done ++ w ∷ []) ++ words) o
map_twice done w None = refl
map_twice done w (Some ws) = ap Some (sym (append_assoc done (w ∷ []) ws))

-- two bytes more are one register more
pub one_more : (words : List ℕ) (count : ℕ) (left : List ℕ) → count < length words → 2 ≤ length left
    → after (take count words) left ≡ after (take (count + 1) (slice_set words count (get_or left 0 0 * 256 + get_or left 1 0))) (take (length left - 2) (drop 2 left))
one_more words count [] room two = absurd (omega arith)
one_more words count (x ∷ []) room two = absurd (omega arith)
one_more words count (high ∷ low ∷ rest) room two =
    let w = high * 256 + low in
    let next : suc count ≡ count + 1 = omega arith in
    let grown : take (count + 1) (slice_set words count w) ≡ take count words ++ w ∷ [] = sym (ap (λ n. take n (slice_set words count w)) next) ∙ take-suc-set words count w room in
    let left_is : take (length (high ∷ low ∷ rest) - 2) rest ≡ rest = take_all (length (high ∷ low ∷ rest) - 2) rest (omega arith) in
    map_twice (take count words) w (registers_in rest) ∙ sym (ap (λ done. after done rest) grown) ∙ sym (ap (after (take (count + 1) (slice_set words count w))) left_is)

pub none_done : (left : List ℕ) → registers_in left ≡ after [] left
none_done left = go (registers_in left)
  where
    go : (o : Option (List ℕ)) → o ≡ option_map (λ words. [] ++ words) o
    go None = refl
    go (Some ws) = refl

pub bytes-append : (xs ys : List ℕ) → register_bytes (xs ++ ys) ≡ register_bytes xs ++ register_bytes ys
bytes-append [] ys = refl
bytes-append (x ∷ xs) ys = ap (λ bs. (x / 256) ∷ (x % 256) ∷ bs) (bytes-append xs ys)

-- what is written reads back
pub reads_back : (words : List ℕ) → registers_in (register_bytes words) ≡ Some words
reads_back [] = refl
reads_back (w ∷ words) =
    let whole : w / 256 * 256 + w % 256 ≡ w = omega arith in
    ap (option_map (λ ws. (w / 256 * 256 + w % 256) ∷ ws)) (reads_back words) ∙ ap (λ n. Some (n ∷ words)) whole

length_bytes : (words : List ℕ) → length (register_bytes words) ≡ 2 * length words
length_bytes [] = refl
length_bytes (w ∷ words) = omega (arith, length_bytes words)

pub words_back : (words : List ℕ) → 0 < length words → length words ≤ 125 → words_of (Blob (register_bytes words)) ≡ Some words
words_back words some few =
    let many = length_bytes words in
    let low : nat_lt 0 (length (register_bytes words)) ≡ true = lt-ltb 0 (length (register_bytes words)) (omega (arith, many)) in
    let high : nat_le (length (register_bytes words)) 250 ≡ true = le-leb (length (register_bytes words)) 250 (omega (arith, many)) in
    rw (low, high) (reads_back words)

-- two bytes more are written
pub written_more : (bytes words : List ℕ) (i place : ℕ) → place + 1 < length bytes → i < length words → take place bytes ≡ register_bytes (take i words)
    → take (place + 2) (slice_set (slice_set bytes place (get_or words i 0 / 256)) (place + 1) (get_or words i 0 % 256)) ≡ register_bytes (take (i + 1) words)
written_more bytes words i place room in_range so_far =
    let w = get_or words i 0 in
    let first = slice_set bytes place (w / 256) in
    let next : suc (place + 1) ≡ place + 2 = omega arith in
    let one : suc place ≡ place + 1 = omega arith in
    let long : length first ≡ length bytes = length-set bytes place (w / 256) in
    sym (ap (λ n. take n (slice_set first (place + 1) (w % 256))) next) ∙ take-suc-set first (place + 1) (w % 256) (omega (arith, long, room))
    ∙ ap (λ xs. xs ++ (w % 256) ∷ []) (sym (ap (λ n. take n first) one) ∙ take-suc-set bytes place (w / 256) (omega arith))
    ∙ append_assoc (take place bytes) ((w / 256) ∷ []) ((w % 256) ∷ [])
    ∙ ap (λ xs. xs ++ (w / 256) ∷ (w % 256) ∷ []) so_far ∙ sym (bytes-append (take i words) (w ∷ [])) ∙ ap register_bytes (sym (take_more words i 0 in_range))
