-- Connections that are opened.
use Rattle.std.proofs.Common.{◌≡◌, ◌≢◌, ℕ, ◌+◌, ◌<◌, ◌≤◌, Bool, true, false, cond, eqb, List, [], ◌∷◌, length, Some, None, Option, refl, sym, ap, ◌∙◌, arith, subst, ⊎_elim}
use Rattle.std.specs.Prelude.{option_map, is_none, is_some, IsSome, ◌&&◌}
use Rattle.std.proofs.lemmas.Bool.{false≢true, eqb-true, eq-eqb, ne_eqb, cases_eq}
use Rattle.point_list.specs.declared.site.Site.{Site}
use Rattle.poll_match.specs.Window.{Open as OpenOne, held, fresh, line_of, greatest_of, Changes}
use Rattle.poll_match.proofs.Greatest.{greatest_below}
use Rattle.poll_book.specs.declared.rows.PointRow.{PointRow}
use Rattle.poll_book.specs.Tables.{Tables}
use Rattle.office_core.specs.declared.error.OfficeError.{OfficeError}
use Rattle.office_core.specs.declared.event.EventAnswer.TheVariants as answer
use Rattle.office_core.specs.Sites.{line_place}
use Rattle.office_core.specs.Orders.{send_fault}
use Rattle.office_core.specs.History.{Restart, Load, Order, Void, Open, Ask, Send, Reply, Noise, History, tables, points, site_of, connections, open_line, open_fault, same_line, line_after, asked, settings, ask_fault}
use Rattle.office_core.specs.Answers.{answer_of, refused_or}
use Rattle.office_core.specs.Standing.{queries_from, queries, open_one, open_of, StandsFor, IsFormer, Closes}
use Rattle.office_core.proofs.Asks.{ask_made, asked_not}
use Rattle.office_core.proofs.Sends.{send_made, sent_not}
use Rattle.office_core.proofs.Queries.{still_open}

-- whether an Open makes a connection
abbrev pub open_made : History → List ℕ → Bool
open_made before line = is_none (open_fault (line_place (site_of before) line) (connections before))

and_made : (b : Bool) (n m : ℕ) → n ≤ m → n ≤ cond b (m + 1) m
and_made true n m h = omega arith
and_made false n m h = h

-- an open connection was made
pub opened : (before : History) (conn : ℕ) → IsSome (open_line before conn) → conn ≤ connections before
opened [] conn some = absurd (cc)
opened (Restart site ∷ before) conn some = absurd (cc)
opened (Load edition caller key list ∷ before) conn some = opened before conn some
opened (Order caller key point value ∷ before) conn some = opened before conn some
opened (Void caller key point at ∷ before) conn some = opened before conn some
opened (Open line ∷ before) conn some =
    by (open_made before line) (eqb conn (connections before + 1)) (same_line (line_place (site_of before) line) (open_line before conn)) (opened before conn) refl some
  where
    by : (b c d : Bool) → (IsSome (open_line before conn) → conn ≤ connections before) → eqb conn (connections before + 1) ≡ c
        → IsSome (cond b (cond c (line_place (site_of before) line) (cond d None (open_line before conn))) (open_line before conn)) → conn ≤ cond b (connections before + 1) (connections before)
    by true true d earlier is s = let at : conn ≡ connections before + 1 = eqb-true conn (connections before + 1) is in omega arith
    by true false true earlier is s = absurd (cc)
    by true false false earlier is s = let was = earlier s in omega arith
    by false c d earlier is s = earlier s
opened (Ask c device slot read ∷ before) conn some = opened before conn some
opened (Send c number ∷ before) conn some = opened before conn some
opened (Reply c n unit ∷ before) conn some = opened before conn some
opened (Noise c frame ∷ before) conn some = opened before conn some

-- a connection that isn't made asked nothing
pub unopened : (before : History) (conn : ℕ) → connections before < conn → asked before conn ≡ []
unopened [] conn h = refl
unopened (Restart site ∷ before) conn h = unopened before conn h
unopened (Load edition caller key list ∷ before) conn h = unopened before conn h
unopened (Order caller key point value ∷ before) conn h = unopened before conn h
unopened (Void caller key point at ∷ before) conn h = unopened before conn h
unopened (Open line ∷ before) conn h =
    let more = and_made (open_made before line) (connections before) (connections before) (omega arith) in
    unopened before conn (omega arith)
unopened (Ask c device slot read ∷ before) conn h =
    asked_not before c device slot read conn (never (eqb c conn) (open_line before c) refl refl) ∙ unopened before conn h
  where
    never : (b : Bool) (o : Option ℕ) → eqb c conn ≡ b → open_line before c ≡ o → (b && ask_made before c device read) ≡ false
    never false o at line = refl
    never true None at line = ap (λ l. is_none (ask_fault l (site_of before) (points before) (length (asked before c)) device read)) line
    never true (Some l) at line = let same : c ≡ conn = eqb-true c conn at in let was = opened before c (ap is_some line) in absurd (omega arith)
unopened (Send c number ∷ before) conn h =
    sent_not before c number conn (never (eqb c conn) (open_line before c) refl refl) ∙ unopened before conn h
  where
    never : (b : Bool) (o : Option ℕ) → eqb c conn ≡ b → open_line before c ≡ o → (b && send_made before c number) ≡ false
    never false o at line = refl
    never true None at line = ap (λ l. is_none (send_fault l (site_of before) (points before) (settings before) (length (asked before c)) number)) line
    never true (Some l) at line = let same : c ≡ conn = eqb-true c conn at in let was = opened before c (ap is_some line) in absurd (omega arith)
unopened (Reply c n unit ∷ before) conn h = unopened before conn h
unopened (Noise c frame ∷ before) conn h = unopened before conn h

same_line_is : (a : ℕ) (o : Option ℕ) → o ≡ Some a → same_line (Some a) o ≡ true
same_line_is a o e = ap (same_line (Some a)) e ∙ eq-eqb a a refl

-- the line of a connection after an Open that makes one
lines_after : (before : History) (name : List ℕ) (line : ℕ) → open_made before name ≡ true → line_place (site_of before) name ≡ Some line
    → (d : ℕ) → open_line (Open name ∷ before) d ≡ line_after (Some line) (connections before + 1) d (open_line before d)
lines_after before name line made place d =
    ap (λ b. cond b (line_after (line_place (site_of before) name) (connections before + 1) d (open_line before d)) (open_line before d)) made
    ∙ ap (λ l. line_after l (connections before + 1) d (open_line before d)) place

-- at most one connection of a line is open
pub one_a_line : (before : History) (a b line : ℕ) → open_line before a ≡ Some line → open_line before b ≡ Some line → a ≡ b
one_a_line [] a b line x y = absurd (cc)
one_a_line (Restart site ∷ before) a b line x y = absurd (cc)
one_a_line (Load edition caller key list ∷ before) a b line x y = one_a_line before a b line x y
one_a_line (Order caller key point value ∷ before) a b line x y = one_a_line before a b line x y
one_a_line (Void caller key point at ∷ before) a b line x y = one_a_line before a b line x y
one_a_line (Open name ∷ before) a b line x y =
    by (open_made before name) (eqb a (connections before + 1)) (eqb b (connections before + 1)) refl refl (one_a_line before a b line) x y
  where
    place : Option ℕ
    place = line_place (site_of before) name

    left_open : (o : Option ℕ) → cond (same_line place o) None o ≡ Some line → (o ≡ Some line) × (same_line place o ≡ false)
    left_open o e = by_same (same_line place o) refl e
      where
        by_same : (s : Bool) → same_line place o ≡ s → cond s None o ≡ Some line → (o ≡ Some line) × (same_line place o ≡ false)
        by_same true is e = absurd (cc)
        by_same false is e = (e, is)

    not_new : place ≡ Some line → (o : Option ℕ) → cond (same_line place o) None o ≡ Some line → ⊥
    not_new at o e = let l = left_open o e in false≢true (sym l.1 ∙ ap (λ p. same_line p o) at ∙ same_line_is line o l.0)

    by : (m c d : Bool) → eqb a (connections before + 1) ≡ c → eqb b (connections before + 1) ≡ d → (open_line before a ≡ Some line → open_line before b ≡ Some line → a ≡ b)
        → cond m (cond c place (cond (same_line place (open_line before a)) None (open_line before a))) (open_line before a) ≡ Some line
        → cond m (cond d place (cond (same_line place (open_line before b)) None (open_line before b))) (open_line before b) ≡ Some line → a ≡ b
    by false c d p q earlier x y = earlier x y
    by true true true p q earlier x y = eqb-true a (connections before + 1) p ∙ sym (eqb-true b (connections before + 1) q)
    by true true false p q earlier x y = absurd (not_new x (open_line before b) y)
    by true false true p q earlier x y = absurd (not_new y (open_line before a) x)
    by true false false p q earlier x y = earlier (left_open (open_line before a) x).0 (left_open (open_line before b) y).0
one_a_line (Ask c device slot read ∷ before) a b line x y = one_a_line before a b line x y
one_a_line (Send c number ∷ before) a b line x y = one_a_line before a b line x y
one_a_line (Reply c n unit ∷ before) a b line x y = one_a_line before a b line x y
one_a_line (Noise c frame ∷ before) a b line x y = one_a_line before a b line x y

-- ---- what an Open does to an office that stands for a history

module _ (holds : Tables → Type 0) (now : Site) (known : List PointRow) (all : List OpenOne) (before : History) (stands : StandsFor holds now known all before) where
  pub line_held : (d : ℕ) → line_of (held d all) ≡ open_line before d
  line_held d = ap line_of (stands.connections d) ∙ by (open_line before d)
    where
      by : (o : Option ℕ) → line_of (option_map (open_one d (queries before d)) o) ≡ o
      by None = refl
      by (Some line) = refl

  -- no open connection has a greater number than the last that was made
  pub held_made : (d : ℕ) → IsSome (held d all) → d ≤ connections before
  held_made d some = opened before d (by (open_line before d) (ap is_some (sym (stands.connections d)) ∙ some))
    where
      by : (o : Option ℕ) → is_some (option_map (open_one d (queries before d)) o) ≡ true → IsSome o
      by None e = e
      by (Some line) e = refl

  pub greatest_made : greatest_of all ≤ connections before
  greatest_made = greatest_below all (connections before) held_made

  pub open_refused : (name : List ℕ) (e : OfficeError) → open_fault (line_place (site_of before) name) (connections before) ≡ Some e
      → StandsFor holds now known all (Open name ∷ before) × (answer.Refused e ≡ answer_of before (Open name))
  open_refused name e fault =
      let off : open_made before name ≡ false = ap is_none fault in (
        record {
          tables = subst (λ b. holds (record (tables before) { connections = cond b (connections before + 1) (connections before) })) (sym off) stands.tables;
          site = stands.site;
          points = stands.points;
          connections = λ d. stands.connections d ∙ sym (still_open before (Open name ∷ before) d
              (ap (λ b. cond b (line_after (line_place (site_of before) name) (connections before + 1) d (open_line before d)) (open_line before d)) off) refl (λ k. refl));
        },
        sym (ap (λ o. refused_or o (answer.Opened (connections before + 1))) fault),
      )

  module _ (name : List ℕ) (line : ℕ) (fault : open_fault (line_place (site_of before) name) (connections before) ≡ None)
      (place : line_place (site_of before) name ≡ Some line) (former : Option ℕ) (is_former : IsFormer line all former)
      (all1 all' : List OpenOne) (opens : Changes (connections before + 1) (fresh (connections before + 1) line) all all1) (closes : Closes former all1 all') where
    abbrev new : ℕ
    new = connections before + 1

    abbrev after : History
    after = Open name ∷ before

    lines : (d : ℕ) → open_line after d ≡ line_after (Some line) new d (open_line before d)
    lines = lines_after before name line (ap is_none fault) place

    -- the former connection of the line isn't the new one, and others that are closed aren't there
    stays : (d : ℕ) → (open_line before d ≡ Some line → ⊥) → held d all' ≡ held d all1
    stays d other = by former is_former closes
      where
        by : (f : Option ℕ) → IsFormer line all f → Closes f all1 all' → held d all' ≡ held d all1
        by None is same = ap (held d) same
        by (Some c) least change = change.others d (λ e. other (ap (open_line before) e ∙ sym (line_held c) ∙ least.there))

    gone : (d : ℕ) → open_line before d ≡ Some line → held d all' ≡ None
    gone d at = by former is_former closes
      where
        by : (f : Option ℕ) → IsFormer line all f → Closes f all1 all' → held d all' ≡ None
        by None none same = absurd (none d (line_held d ∙ at))
        by (Some c) least change =
            let same : d ≡ c = one_a_line before d c line at (sym (line_held c) ∙ least.there) in
            ap (λ x. held x all') same ∙ change.that

    at_new : held new all' ≡ open_of after new
    at_new =
        let none : asked before new ≡ [] = unopened before new (omega arith) in
        stays new (λ e. let le = opened before new (ap is_some e) in absurd (omega arith)) ∙ opens.that
        ∙ sym ((λ i. option_map (open_one new (queries_from after new 0 (none i))) (lines new i))
        ∙ ap (λ b. option_map (open_one new []) (cond b (Some line) (cond (same_line (Some line) (open_line before new)) None (open_line before new)))) (eq-eqb new new refl))

    at_other : (d : ℕ) → d ≢ new → held d all' ≡ open_of after d
    at_other d apart = by (open_line before d) refl
      where
        far : open_line after d ≡ cond (same_line (Some line) (open_line before d)) None (open_line before d)
        far = lines d ∙ ap (λ b. cond b (Some line) (cond (same_line (Some line) (open_line before d)) None (open_line before d))) (ne_eqb d new apart)

        by : (o : Option ℕ) → open_line before d ≡ o → held d all' ≡ open_of after d
        by None at =
            stays d (λ e. let n : None ≡ Some line = sym at ∙ e in absurd (cc)) ∙ opens.others d apart ∙ stands.connections d
            ∙ sym (still_open before after d (far ∙ ap (λ o. cond (same_line (Some line) o) None o) at ∙ sym at) refl (λ k. refl))
        by (Some l) at = by_line (eqb line l) refl
          where
            by_line : (b : Bool) → eqb line l ≡ b → held d all' ≡ open_of after d
            by_line true e =
                gone d (at ∙ ap Some (sym (eqb-true line l e)))
                ∙ sym (ap (option_map (open_one d (queries after d))) (far ∙ ap (λ o. cond (same_line (Some line) o) None o) at ∙ ap (λ b. cond b None (Some l)) e))
            by_line false e =
                stays d (λ q. false≢true (sym e ∙ same_line_is line (Some l) (sym at ∙ q))) ∙ opens.others d apart ∙ stands.connections d
                ∙ sym (still_open before after d (far ∙ ap (λ o. cond (same_line (Some line) o) None o) at ∙ ap (λ b. cond b None (Some l)) e ∙ sym at) refl (λ k. refl))

    pub open_made_so : (holds' : Tables → Type 0) → holds' (record (tables before) { connections = connections before + 1 })
        → StandsFor holds' now known all' (Open name ∷ before) × (answer.Opened (connections before + 1) ≡ answer_of before (Open name))
    open_made_so holds' kept = (
      record {
        tables = subst (λ b. holds' (record (tables before) { connections = cond b (connections before + 1) (connections before) })) (sym (ap is_none fault)) kept;
        site = stands.site;
        points = stands.points;
        connections = λ d. ⊎_elim (λ (at : d ≡ new). subst (λ x. held x all' ≡ open_of after x) (sym at) at_new) (at_other d) (cases_eq d new);
      },
      sym (ap (λ o. refused_or o (answer.Opened (connections before + 1))) fault),
    )
