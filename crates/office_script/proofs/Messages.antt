-- The events that lines ask for are messages: their texts are bytes, and their numbers are of their types.
use Rattle.std.proofs.Common.{◌≡◌, ◌≤◌, ◌<◌, ◌+◌, ◌-◌, ◌*◌, ℕ, zero, suc, Bool, true, false, cond, List, [], ◌∷◌, length, drop, refl, sym, ◌∙◌, subst, arith, Option, Some, None}
use Rattle.std.specs.Prelude.{ℤ, ◌==◌, ◌&&◌, nat_le, nat_lt}
use Rattle.std.specs.Char.{is_ascii}
use Rattle.std.specs.List.{list_all}
use Rattle.std.proofs.lemmas.Bool.{and_parts}
use Rattle.std.proofs.lemmas.Bool.Decides.{nat_tests}
use Rattle.std.proofs.lemmas.List.Folds.{list_all-append}
use Rattle.hex.specs.Hex.{hex_digit_value}
use Rattle.mb_pdu.specs.Replies.{IsBytes}
use Rattle.mb_mbap.specs.declared.frame.Frame.{Frame}
use Rattle.mb_mbap.specs.Whole.{fields_in, is_whole}
use Rattle.sunspec.specs.Digits.{number_within}
use Rattle.read_planner.specs.declared.Read.{Read}
use Rattle.office_core.specs.declared.event.Event.{Event}
use Rattle.office_core.specs.declared.event.Event.TheVariants.{Load, Order, Void, Open, Ask, Send, Arrive, Restart}
use Rattle.poll_book.specs.Callers.{is_key}
use Rattle.office_core.specs.Legal.{IsNumber}
use Rattle.office_script.specs.Words.{words_of, word_at, is_text, key_of, value_of, joined, byte_of, onto_bytes, bytes_of}
use Rattle.office_script.specs.declared.command.Verb.{Verb}
use Rattle.office_script.specs.declared.command.Verb.TheVariants as verb
use Rattle.office_script.proofs.Keys.{is_name, is_line_key}
use Rattle.office_script.proofs.Values.{same, within_limit, value_number}
use Rattle.office_script.specs.Commands.{Comes, caller_name, line_key, verb_of, event_by, number_limit, byte_limit, word_limit, list_header, list_with, point_of, ordering, order_of, voiding, void_of, open_of, read_of, asking, ask_of, sending, send_of, frame_in, arriving, reply_of, restart_of, event_of_words, record_in, event_with, event_of}
use Rattle.point_list.proofs.Labels.{all_ascii}

-- ---- texts

ascii_bytes : (text : List ℕ) → list_all is_ascii text ≡ true → IsBytes text
ascii_bytes text h = λ i. let small = all_ascii text h i in omega (arith, small)

text_bytes : (word : List ℕ) → is_text word ≡ true → IsBytes word
text_bytes word h = ascii_bytes word (and_parts (nat_lt 0 (length word)) (list_all is_ascii word) h).1

-- ---- bytes

hex_below : (c d : ℕ) → hex_digit_value c ≡ Some d → d < 16
hex_below c d e = by (nat_le 65 c && nat_le c 70) (nat_le 97 c && nat_le c 102) (nat_le 48 c && nat_le c 57) refl refl refl e
  where
    by : (p q r : Bool) → (nat_le 65 c && nat_le c 70) ≡ p → (nat_le 97 c && nat_le c 102) ≡ q → (nat_le 48 c && nat_le c 57) ≡ r
        → cond p (Some (c - 55)) (cond q (Some (c - 87)) (cond r (Some (c - 48)) None)) ≡ Some d → d < 16
    by true q r hp hq hr e = let top = (and_parts (nat_le 65 c) (nat_le c 70) hp).1 in let value = same (c - 55) d e in let small : c ≤ 70 = grind (arith, nat_tests, top) in omega (arith, value, small)
    by false true r hp hq hr e = let top = (and_parts (nat_le 97 c) (nat_le c 102) hq).1 in let value = same (c - 87) d e in let small : c ≤ 102 = grind (arith, nat_tests, top) in omega (arith, value, small)
    by false false true hp hq hr e = let top = (and_parts (nat_le 48 c) (nat_le c 57) hr).1 in let value = same (c - 48) d e in let small : c ≤ 57 = grind (arith, nat_tests, top) in omega (arith, value, small)
    by false false false hp hq hr e = absurd (cc)

byte_below : (word : List ℕ) (b : ℕ) → byte_of word ≡ Some b → b < 256
byte_below [] b e = absurd (cc)
byte_below (x ∷ []) b e = absurd (cc)
byte_below (x ∷ y ∷ []) b e = by (hex_digit_value x) (hex_digit_value y) (hex_below x) (hex_below y) e
  where
    by : (o p : Option ℕ) → ((d : ℕ) → o ≡ Some d → d < 16) → ((d : ℕ) → p ≡ Some d → d < 16) → joined o p ≡ Some b → b < 256
    by None p ho hp e = absurd (cc)
    by (Some high) None ho hp e = absurd (cc)
    by (Some high) (Some low) ho hp e = let h = ho high refl in let l = hp low refl in let value = same (high * 16 + low) b e in omega (arith, h, l, value)
byte_below (x ∷ y ∷ z ∷ rest) b e = absurd (cc)

-- bytes that words spell are bytes
bytes_below : (words : List (List ℕ)) (bytes : List ℕ) → bytes_of words ≡ Some bytes → IsBytes bytes
bytes_below [] bytes e = let value = same [] bytes e in subst IsBytes (sym value) (λ i. omega arith)
bytes_below (word ∷ words) bytes e = by (byte_of word) (bytes_of words) (byte_below word) (bytes_below words) e
  where
    by : (o : Option ℕ) (p : Option (List ℕ)) → ((b : ℕ) → o ≡ Some b → b < 256) → ((bs : List ℕ) → p ≡ Some bs → IsBytes bs) → onto_bytes o p ≡ Some bytes → IsBytes bytes
    by None p ho hp e = absurd (cc)
    by (Some b) None ho hp e = absurd (cc)
    by (Some b) (Some bs) ho hp e = subst IsBytes (sym (same (b ∷ bs) bytes e)) (each (ho b refl) (hp bs refl))
      where
        each : b < 256 → IsBytes bs → IsBytes (b ∷ bs)
        each here more zero = here
        each here more (suc i) = more i

drop_bytes : (n : ℕ) (bytes : List ℕ) → IsBytes bytes → IsBytes (drop n bytes)
drop_bytes zero bytes h = h
drop_bytes (suc n) [] h = h
drop_bytes (suc n) (b ∷ bytes) h = drop_bytes n bytes (λ i. h (suc i))

-- ---- events

point_message : (number : ℕ) (said : List ℕ) (e : Event) → number ≤ number_limit → Some e ≡ point_of number said → Comes e
point_message number said e small is = by (list_all is_ascii said) refl is
  where
    listed : Event
    listed = Load caller_name (line_key number) (list_with said)

    by : (b : Bool) → list_all is_ascii said ≡ b → Some e ≡ cond b (Some listed) None → Comes e
    by false h is = absurd (cc)
    by true h is = subst Comes (same e listed is) (ascii_bytes (list_with said) (list_all-append is_ascii list_header said ∙ h), (is_name, is_line_key number small))

keyed : (word key : List ℕ) (b : Bool) → is_key word ≡ b → Some key ≡ cond b (Some word) None → is_key key ≡ true
keyed word key false h e = absurd (cc)
keyed word key true h e = subst (λ k. is_key k ≡ true) (same key word e) h

order_message : (words : List (List ℕ)) (e : Event) → Some e ≡ order_of words → Comes e
order_message words e is = by (length words == 3) is
  where
    ordered : (o : Option (List ℕ)) (point : List ℕ) (p : Option ℤ) → ((key : List ℕ) → Some key ≡ o → is_key key ≡ true) → ((z : ℤ) → Some z ≡ p → IsNumber z)
        → Some e ≡ ordering o point p → Comes e
    ordered None point p ho hp is = absurd (cc)
    ordered (Some key) point None ho hp is = absurd (cc)
    ordered (Some key) point (Some value) ho hp is = named (is_text point) refl is
      where
        named : (b : Bool) → is_text point ≡ b → Some e ≡ cond b (Some (Order caller_name key point value)) None → Comes e
        named false h is = absurd (cc)
        named true h is = subst Comes (same e (Order caller_name key point value) is) (text_bytes point h, hp value refl, (is_name, ho key refl))

    by : (b : Bool) → Some e ≡ cond b (ordering (key_of (word_at words 0)) (word_at words 1) (value_of (word_at words 2))) None → Comes e
    by false is = absurd (cc)
    by true is =
        ordered (key_of (word_at words 0)) (word_at words 1) (value_of (word_at words 2))
        (λ key h. keyed (word_at words 0) key (is_key (word_at words 0)) refl h) (λ z h. value_number (word_at words 2) z h) is

void_message : (words : List (List ℕ)) (e : Event) → Some e ≡ void_of words → Comes e
void_message words e is = by (length words == 3) is
  where
    voided : (o : Option (List ℕ)) (point : List ℕ) (p : Option ℕ) → ((key : List ℕ) → Some key ≡ o → is_key key ≡ true) → ((n : ℕ) → Some n ≡ p → n ≤ number_limit)
        → Some e ≡ voiding o point p → Comes e
    voided None point p ho hp is = absurd (cc)
    voided (Some key) point None ho hp is = absurd (cc)
    voided (Some key) point (Some slot) ho hp is = named (is_text point) refl is
      where
        named : (b : Bool) → is_text point ≡ b → Some e ≡ cond b (Some (Void caller_name key point slot)) None → Comes e
        named false h is = absurd (cc)
        named true h is = subst Comes (same e (Void caller_name key point slot) is) (text_bytes point h, hp slot refl, (is_name, ho key refl))

    by : (b : Bool) → Some e ≡ cond b (voiding (key_of (word_at words 0)) (word_at words 1) (number_within number_limit (word_at words 2))) None → Comes e
    by false is = absurd (cc)
    by true is =
        voided (key_of (word_at words 0)) (word_at words 1) (number_within number_limit (word_at words 2))
        (λ key h. keyed (word_at words 0) key (is_key (word_at words 0)) refl h) (λ n h. within_limit number_limit n (word_at words 2) h) is

send_message : (words : List (List ℕ)) (e : Event) → Some e ≡ send_of words → Comes e
send_message words e is = by (length words == 2) is
  where
    sent : (o p : Option ℕ) → ((n : ℕ) → Some n ≡ o → n ≤ number_limit) → ((n : ℕ) → Some n ≡ p → n ≤ number_limit) → Some e ≡ sending o p → Comes e
    sent None p ho hp is = absurd (cc)
    sent (Some conn) None ho hp is = absurd (cc)
    sent (Some conn) (Some number) ho hp is = subst Comes (same e (Send conn number) is) (ho conn refl, hp number refl)

    by : (b : Bool) → Some e ≡ cond b (sending (number_within number_limit (word_at words 0)) (number_within number_limit (word_at words 1))) None → Comes e
    by false is = absurd (cc)
    by true is =
        sent (number_within number_limit (word_at words 0)) (number_within number_limit (word_at words 1))
        (λ n h. within_limit number_limit n (word_at words 0) h) (λ n h. within_limit number_limit n (word_at words 1) h) is

restart_message : (words : List (List ℕ)) (e : Event) → Some e ≡ restart_of words → Comes e
restart_message words e is = by (length words == 0) is
  where
    by : (b : Bool) → Some e ≡ cond b (Some Restart) None → Comes e
    by false is = absurd (cc)
    by true is = subst Comes (same e Restart is) tt

open_message : (words : List (List ℕ)) (e : Event) → Some e ≡ open_of words → Comes e
open_message words e is = by (length words == 1) (is_text (word_at words 0)) refl is
  where
    by : (a b : Bool) → is_text (word_at words 0) ≡ b → Some e ≡ cond (a && b) (Some (Open (word_at words 0))) None → Comes e
    by false b h is = absurd (cc)
    by true false h is = absurd (cc)
    by true true h is = subst Comes (same e (Open (word_at words 0)) is) (text_bytes (word_at words 0) h)

ask_message : (words : List (List ℕ)) (e : Event) → Some e ≡ ask_of words → Comes e
ask_message words e is = by (length words == 6) is
  where
    asked : (o p : Option ℕ) (device : List ℕ) (r : Option Read) → ((n : ℕ) → Some n ≡ o → n ≤ number_limit) → ((n : ℕ) → Some n ≡ p → n ≤ number_limit)
        → Some e ≡ asking o device p r → Comes e
    asked None p device r ho hp is = absurd (cc)
    asked (Some conn) None device r ho hp is = absurd (cc)
    asked (Some conn) (Some slot) device None ho hp is = absurd (cc)
    asked (Some conn) (Some slot) device (Some r) ho hp is = named (is_text device) refl is
      where
        named : (b : Bool) → is_text device ≡ b → Some e ≡ cond b (Some (Ask conn device slot r)) None → Comes e
        named false h is = absurd (cc)
        named true h is = subst Comes (same e (Ask conn device slot r) is) (text_bytes device h, ho conn refl, hp slot refl)

    the_read : Option Read
    the_read = read_of (number_within byte_limit (word_at words 3)) (number_within word_limit (word_at words 4)) (number_within word_limit (word_at words 5))

    by : (b : Bool) → Some e ≡ cond b (asking (number_within number_limit (word_at words 0)) (word_at words 1) (number_within number_limit (word_at words 2)) the_read) None → Comes e
    by false is = absurd (cc)
    by true is =
        asked (number_within number_limit (word_at words 0)) (number_within number_limit (word_at words 2)) (word_at words 1) the_read
        (λ n h. within_limit number_limit n (word_at words 0) h) (λ n h. within_limit number_limit n (word_at words 2) h) is

frame_bytes : (o : Option (List ℕ)) (frame : Frame) → ((bs : List ℕ) → o ≡ Some bs → IsBytes bs) → Some frame ≡ frame_in o → IsBytes frame.unit
frame_bytes None frame h is = absurd (cc)
frame_bytes (Some bytes) frame h is = by (is_whole bytes) is
  where
    by : (b : Bool) → Some frame ≡ cond b (Some (fields_in bytes)) None → IsBytes frame.unit
    by false is = absurd (cc)
    by true is = subst (λ (f : Frame). IsBytes f.unit) (same frame (fields_in bytes) is) (drop_bytes 7 bytes (h bytes refl))

reply_message : (words : List (List ℕ)) (e : Event) → Some e ≡ reply_of words → Comes e
reply_message [] e is = absurd (cc)
reply_message (conn ∷ bytes) e is = by (number_within number_limit conn) (frame_in (bytes_of bytes)) (λ frame h. frame_bytes (bytes_of bytes) frame (bytes_below bytes) h) is
  where
    by : (o : Option ℕ) (p : Option Frame) → ((frame : Frame) → Some frame ≡ p → IsBytes frame.unit) → Some e ≡ arriving o p → Comes e
    by None p h is = absurd (cc)
    by (Some c) None h is = absurd (cc)
    by (Some c) (Some frame) h is = subst Comes (same e (Arrive c frame) is) (h frame refl)

words_message : (words : List (List ℕ)) (e : Event) → Some e ≡ event_of_words words → Comes e
words_message [] e is = absurd (cc)
words_message (name ∷ rest) e is = by (verb_of name) is
  where
    by : (v : Option Verb) → Some e ≡ event_by v rest → Comes e
    by None is = absurd (cc)
    by (Some verb.Open) is = open_message rest e is
    by (Some verb.Ask) is = ask_message rest e is
    by (Some verb.Reply) is = reply_message rest e is
    by (Some verb.Order) is = order_message rest e is
    by (Some verb.Void) is = void_message rest e is
    by (Some verb.Send) is = send_message rest e is
    by (Some verb.Restart) is = restart_message rest e is

-- what a line asks for can come, where 32 bits hold the line's number
pub comes_so : (number : ℕ) (line : List ℕ) (e : Event) → number ≤ number_limit → Some e ≡ event_of number line → Comes e
comes_so number line e small is = by (record_in line) is
  where
    by : (o : Option (List ℕ)) → Some e ≡ event_with number o (words_of line) → Comes e
    by (Some said) is = point_message number said e small is
    by None is = words_message (words_of line) e is
