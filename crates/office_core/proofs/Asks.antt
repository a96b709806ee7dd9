-- What an ask does to an office that stands for a history.
use Rattle.std.proofs.Common.{◌≡◌, ◌≢◌, ℕ, ◌+◌, Bool, true, false, cond, eqb, List, [], ◌∷◌, ◌++◌, length, Some, None, Option, refl, sym, ap, ◌∙◌, arith, subst, ⊎_elim}
use Rattle.std.specs.Prelude.{option_map, is_none, ◌&&◌}
use Rattle.std.proofs.lemmas.Bool.{and_from, eq-eqb, ne_eqb, cases_eq}
use Rattle.point_list.specs.declared.site.Site.{Site}
use Rattle.read_planner.specs.declared.Read.{Read}
use Rattle.poll_match.specs.Window.{Open as OpenOne, held, with_next, with_query, Changes}
use Rattle.poll_match.proofs.Connections.{seen-push}
use Rattle.poll_book.specs.declared.rows.PointRow.{PointRow}
use Rattle.poll_book.specs.Tables.{Tables}
use Rattle.office_core.specs.declared.error.OfficeError.{OfficeError}
use Rattle.office_core.specs.declared.event.EventAnswer.TheVariants as answer
use Rattle.office_core.specs.Cover.{Question}
use Rattle.office_core.specs.Queries.{Query, Reads, asked_of, query_frame}
use Rattle.office_core.specs.History.{Ask, History, points, site_of, open_line, asked, is_answered, ask_fault, question}
use Rattle.office_core.specs.Answers.{answer_of, refused_or}
use Rattle.office_core.specs.Standing.{queries_from, queries, open_one, open_of, StandsFor}
use Rattle.office_core.proofs.Queries.{queries-push, same_queries, still_open, unasked}

-- whether an ask makes a query
abbrev pub ask_made : History → ℕ → List ℕ → Read → Bool
ask_made before conn device read = is_none (ask_fault (open_line before conn) (site_of before) (points before) (length (asked before conn)) device read)

-- what is asked after that history
abbrev pub asks : History → List ℕ → ℕ → Read → Question
asks before device slot read = question (site_of before) (points before) device slot read

pub asked_not : (before : History) (conn : ℕ) (device : List ℕ) (slot : ℕ) (read : Read) (other : ℕ) → (eqb conn other && ask_made before conn device read) ≡ false
    → asked (Ask conn device slot read ∷ before) other ≡ asked before other
asked_not before conn device slot read other off = ap (λ b. cond b (asked before other ++ Reads (asks before device slot read) ∷ []) (asked before other)) off

asked_one : (before : History) (conn : ℕ) (device : List ℕ) (slot : ℕ) (read : Read) → ask_made before conn device read ≡ true
    → asked (Ask conn device slot read ∷ before) conn ≡ asked before conn ++ Reads (asks before device slot read) ∷ []
asked_one before conn device slot read made =
    ap (λ b. cond b (asked before conn ++ Reads (asks before device slot read) ∷ []) (asked before conn)) (and_from (eqb conn conn) _ (eq-eqb conn conn refl) made)

pub and_off : (a b : Bool) → b ≡ false → (a && b) ≡ false
and_off true b e = e
and_off false b e = refl

pub and_off_left : (a b : Bool) → a ≡ false → (a && b) ≡ false
and_off_left true b e = absurd (cc)
and_off_left false b e = refl

-- the connection with one query more
pub open_more : (before after : History) (conn : ℕ) (q : Query) → asked after conn ≡ asked before conn ++ q ∷ [] → open_line after conn ≡ open_line before conn
    → ((k : ℕ) → is_answered after conn k ≡ is_answered before conn k) → with_query (asked_of q) (open_of before conn) ≡ open_of after conn
open_more before after conn q one lines answered = by (open_line before conn) ∙ ap (option_map (open_one conn (queries after conn))) (sym lines)
  where
    all : queries after conn ≡ queries before conn ++ record { asked = asked_of q; settled = false } ∷ []
    all =
        ap (queries_from after conn 0) one
        ∙ same_queries before after conn 0 (asked before conn ++ q ∷ []) answered
        ∙ queries-push before conn 0 (asked before conn) q
        ∙ ap (λ s. queries before conn ++ record { asked = asked_of q; settled = s } ∷ []) (unasked before conn (0 + length (asked before conn)) (omega arith))

    by : (o : Option ℕ) → option_map (with_next (asked_of q)) (option_map (open_one conn (queries before conn)) o) ≡ option_map (open_one conn (queries after conn)) o
    by None = refl
    by (Some line) = ap Some (sym (seen-push conn line (queries before conn) (asked_of q)) ∙ ap (λ l. open_one conn l line) (sym all))

module _ (holds : Tables → Type 0) (now : Site) (known : List PointRow) (all : List OpenOne) (before : History) (stands : StandsFor holds now known all before) where
  pub ask_refused : (conn : ℕ) (device : List ℕ) (slot : ℕ) (read : Read) (e : OfficeError)
      → ask_fault (open_line before conn) (site_of before) (points before) (length (asked before conn)) device read ≡ Some e
      → StandsFor holds now known all (Ask conn device slot read ∷ before) × (answer.Refused e ≡ answer_of before (Ask conn device slot read))
  ask_refused conn device slot read e fault =
      let off : ask_made before conn device read ≡ false = ap is_none fault in (
        record {
          tables = stands.tables;
          site = stands.site;
          points = stands.points;
          connections = λ d. stands.connections d ∙ sym (still_open before (Ask conn device slot read ∷ before) d refl
              (asked_not before conn device slot read d (and_off (eqb conn d) (ask_made before conn device read) off)) (λ k. refl));
        },
        sym (ap (λ o. refused_or o (answer.Query (query_frame (length (asked before conn)) (Reads (asks before device slot read))))) fault),
      )

  pub ask_made_so : (conn : ℕ) (device : List ℕ) (slot : ℕ) (read : Read)
      → ask_fault (open_line before conn) (site_of before) (points before) (length (asked before conn)) device read ≡ None
      → (all' : List OpenOne) → Changes conn (with_query (asked_of (Reads (asks before device slot read)))) all all'
      → StandsFor holds now known all' (Ask conn device slot read ∷ before)
      × (answer.Query (query_frame (length (asked before conn)) (Reads (asks before device slot read))) ≡ answer_of before (Ask conn device slot read))
  ask_made_so conn device slot read fault all' queried =
      let made : ask_made before conn device read ≡ true = ap is_none fault in (
        record {
          tables = stands.tables;
          site = stands.site;
          points = stands.points;
          connections = λ d. ⊎_elim
              (λ (same : d ≡ conn). subst (λ x. held x all' ≡ open_of (Ask conn device slot read ∷ before) x) (sym same)
              (queried.that ∙ ap (with_query (asked_of (Reads (asks before device slot read)))) (stands.connections conn) ∙ open_more before (Ask conn device slot read ∷ before) conn (Reads (asks before device slot read)) (asked_one before conn device slot read made) refl (λ k. refl)))
              (λ (apart : d ≢ conn). queried.others d apart ∙ stands.connections d
              ∙ sym (still_open before (Ask conn device slot read ∷ before) d refl
              (asked_not before conn device slot read d (and_off_left (eqb conn d) (ask_made before conn device read) (ne_eqb conn d (λ e. apart (sym e))))) (λ k. refl)))
              (cases_eq d conn);
        },
        sym (ap (λ o. refused_or o (answer.Query (query_frame (length (asked before conn)) (Reads (asks before device slot read))))) fault),
      )
