-- The queries of a connection, each with whether it was answered.
use Rattle.std.proofs.Common.{◌≡◌, ℕ, zero, suc, ◌+◌, ◌≤◌, Bool, true, false, cond, eqb, List, [], ◌∷◌, ◌++◌, length, Some, None, refl, sym, ap, ◌∙◌, arith, length-append}
use Rattle.std.specs.Prelude.{slice_get, option_map, is_none, ◌&&◌, ◌||◌}
use Rattle.poll_match.specs.declared.asked.Matched.{Matched}
use Rattle.poll_match.specs.Window.{settled_at, with_settled}
use Rattle.poll_match.proofs.Windows.{last_settled}
use Rattle.office_core.specs.Cover.{Question}
use Rattle.office_core.specs.Queries.{Query, Reads, Writes, asked_of}
use Rattle.office_core.specs.Orders.{send_fault, writing}
use Rattle.office_core.specs.History.{Restart, Load, Order, Void, Open, Ask, Send, Reply, Noise, History, points, site_of, open_line, asked, is_answered, settings, fits_query, ask_fault, question}
use Rattle.office_core.specs.Standing.{queries_from, queries, open_one, open_of}

-- ---- the list of queries

-- a read is a query in one way
pub same_read : (a b : Question) → Reads a ≡ Reads b → a ≡ b
same_read a b e = ap by e
  where
    by : Query → Question
    by (Reads q) = q
    by (Writes w) = a

pub length-queries : (before : History) (conn n : ℕ) (qs : List Query) → length (queries_from before conn n qs) ≡ length qs
length-queries before conn n [] = refl
length-queries before conn n (q ∷ qs) = ap suc (length-queries before conn (n + 1) qs)

get-queries : (before : History) (conn m : ℕ) (qs : List Query) (n : ℕ)
    → slice_get (queries_from before conn m qs) n ≡ option_map (λ (q : Query). record { asked = asked_of q; settled = is_answered before conn (m + n) }) (slice_get qs n)
get-queries before conn m [] n = refl
get-queries before conn m (q ∷ qs) zero = ap (λ k. Some (record { asked = asked_of q; settled = is_answered before conn k })) (omega arith)
get-queries before conn m (q ∷ qs) (suc n) =
    get-queries before conn (m + 1) qs n
    ∙ ap (λ k. option_map (λ (p : Query). record { asked = asked_of p; settled = is_answered before conn k }) (slice_get qs n)) (omega arith)

-- the query of a number
pub get_query : (before : History) (conn n : ℕ)
    → slice_get (queries before conn) n ≡ option_map (λ (q : Query). record { asked = asked_of q; settled = is_answered before conn n }) (slice_get (asked before conn) n)
get_query before conn n =
    get-queries before conn 0 (asked before conn) n
    ∙ ap (λ k. option_map (λ (q : Query). record { asked = asked_of q; settled = is_answered before conn k }) (slice_get (asked before conn) n)) (omega arith)

-- where the same was answered, they are the same
pub same_queries : (before before' : History) (conn n : ℕ) (qs : List Query) → ((k : ℕ) → is_answered before' conn k ≡ is_answered before conn k)
    → queries_from before' conn n qs ≡ queries_from before conn n qs
same_queries before before' conn n [] same = refl
same_queries before before' conn n (q ∷ qs) same =
    λ i. record { asked = asked_of q; settled = same n i } ∷ same_queries before before' conn (n + 1) qs same i

pub queries-push : (before : History) (conn n : ℕ) (qs : List Query) (q : Query)
    → queries_from before conn n (qs ++ q ∷ []) ≡ queries_from before conn n qs ++ record { asked = asked_of q; settled = is_answered before conn (n + length qs) } ∷ []
queries-push before conn n [] q = ap (λ k. record { asked = asked_of q; settled = is_answered before conn k } ∷ []) (omega arith)
queries-push before conn n (p ∷ qs) q =
    ap (λ l. record { asked = asked_of p; settled = is_answered before conn n } ∷ l)
    (queries-push before conn (n + 1) qs q
    ∙ ap (λ k. queries_from before conn (n + 1) qs ++ record { asked = asked_of q; settled = is_answered before conn k } ∷ []) (omega arith))

-- ---- what isn't asked isn't answered

none_past : (xs : List Query) (number : ℕ) → length xs ≤ number → slice_get xs number ≡ None
none_past [] number h = refl
none_past (x ∷ xs) zero h = absurd (omega arith)
none_past (x ∷ xs) (suc number) h = none_past xs number (omega arith)

asked_longer : (b : Bool) (xs ys : List Query) → length xs ≤ length (cond b (xs ++ ys) xs)
asked_longer true xs ys = omega (arith, length-append xs ys)
asked_longer false xs ys = omega arith

neither : (b d f a : Bool) → f ≡ false → a ≡ false → ((b && (d && f)) || a) ≡ false
neither true true true a f h = absurd (cc)
neither true true false a f h = h
neither true false f a e h = h
neither false d f a e h = h

pub unasked : (before : History) (conn number : ℕ) → length (asked before conn) ≤ number → is_answered before conn number ≡ false
unasked [] conn number h = refl
unasked (Restart site ∷ before) conn number h = unasked before conn number h
unasked (Load edition caller key list ∷ before) conn number h = unasked before conn number h
unasked (Order caller key point value ∷ before) conn number h = unasked before conn number h
unasked (Void caller key point at ∷ before) conn number h = unasked before conn number h
unasked (Open line ∷ before) conn number h = unasked before conn number h
unasked (Ask c device slot read ∷ before) conn number h =
    let longer = asked_longer (eqb c conn && is_none (ask_fault (open_line before c) (site_of before) (points before) (length (asked before c)) device read)) (asked before conn) (Reads (question (site_of before) (points before) device slot read) ∷ []) in
    unasked before conn number (omega arith)
unasked (Send c n ∷ before) conn number h =
    let longer = asked_longer (eqb c conn && is_none (send_fault (open_line before c) (site_of before) (points before) (settings before) (length (asked before c)) n)) (asked before conn) (Writes (writing (site_of before) (points before) (settings before) n) ∷ []) in
    unasked before conn number (omega arith)
unasked (Reply c n unit ∷ before) conn number h =
    neither (eqb c conn) (eqb n number) (fits_query (slice_get (asked before conn) number) unit) (is_answered before conn number)
    (ap (λ o. fits_query o unit) (none_past (asked before conn) number h)) (unasked before conn number h)
unasked (Noise c frame ∷ before) conn number h = unasked before conn number h

-- ---- open connections

pub same_open : (before before' : History) (conn : ℕ) → open_line before' conn ≡ open_line before conn → queries before' conn ≡ queries before conn → open_of before' conn ≡ open_of before conn
same_open before before' conn lines all = λ i. option_map (open_one conn (all i)) (lines i)

-- an event after which the same is open, asked and answered
pub still_open : (before before' : History) (conn : ℕ) → open_line before' conn ≡ open_line before conn → asked before' conn ≡ asked before conn
    → ((k : ℕ) → is_answered before' conn k ≡ is_answered before conn k) → open_of before' conn ≡ open_of before conn
still_open before before' conn lines same answered =
    same_open before before' conn lines (ap (queries_from before' conn 0) same ∙ same_queries before before' conn 0 (asked before conn) answered)

-- ---- a query settled

length-settled : (n : ℕ) (xs : List Matched) → length (settled_at n xs) ≡ length xs
length-settled n [] = refl
length-settled zero (x ∷ xs) = refl
length-settled (suc n) (x ∷ xs) = ap suc (length-settled n xs)

pub open-settled : (conn line number : ℕ) (all : List Matched) → length all ≤ number + 65536 → with_settled number (open_one conn all line) ≡ open_one conn (settled_at number all) line
open-settled conn line number all near =
    λ i. record { number = conn; line = line; made = sym (length-settled number all) i; last = last_settled number all near i }
