-- The devices of the queries of open connections are those of the site in force.
use Rattle.std.proofs.Common.{◌≡◌, ℕ, zero, suc, ◌+◌, Bool, true, false, cond, eqb, List, [], ◌∷◌, ◌++◌, length, get_or, Some, None, Option, refl, sym, ap, ◌∙◌, arith, subst, ◌⊎◌, inl, inr}
use Rattle.std.specs.Prelude.{slice_get, option_map, is_none, IsSome, ◌&&◌}
use Rattle.std.specs.Str.{bytes_eq}
use Rattle.std.proofs.lemmas.Bool.{eqb-true}
use Rattle.std.proofs.lemmas.Slice.Eq.{bytes_eq-Decides}
use Rattle.std.proofs.lemmas.List.Quantifiers.{position-Some}
use Rattle.std.proofs.lemmas.Option.{same_Some}
use Rattle.point_list.specs.declared.site.Site.{Site}
use Rattle.point_list.specs.declared.site.Device.{Device}
use Rattle.read_planner.specs.declared.Read.{Read}
use Rattle.poll_book.specs.declared.rows.PointRow.{PointRow}
use Rattle.office_core.specs.declared.error.OfficeError.{OfficeError}
use Rattle.office_core.specs.declared.site.Target.{Target}
use Rattle.office_core.specs.Sites.{target, target_in, target_at, device_name, device_place, line_place}
use Rattle.office_core.specs.Cover.{Question}
use Rattle.office_core.specs.Queries.{Query, Reads, Writes}
use Rattle.office_core.specs.History.{Restart, Load, Order, Void, Open, Ask, Send, Reply, Noise, History, points, site_of, connections, open_line, same_line, asked, ask_fault, ask_fault_on, question_to}
use Rattle.office_core.proofs.Finding.{got}
use Rattle.office_core.proofs.Asks.{asks}
use Rattle.office_core.proofs.Sends.{send_made, sends}
use Rattle.office_core.proofs.Opens.{open_made, unopened}
use Rattle.office_core.proofs.Queries.{same_read}

same_bytes : (a b : List ℕ) → bytes_eq a b ≡ true → a ≡ b
same_bytes a b e = (bytes_eq-Decides a b).0 e

-- the place of a device that is found has its name
pub target_named : (site : Site) (name : List ℕ) (to : Target) → target site name ≡ Some to → device_name site to.place ≡ Some name
target_named site name to is = by (device_place site name) refl is
  where
    named : Device → Bool
    named device = bytes_eq device.name name

    by : (o : Option ℕ) → device_place site name ≡ o → target_in site.devices o ≡ Some to → device_name site to.place ≡ Some name
    by None at e = absurd (cc)
    by (Some place) at e = by_device (slice_get site.devices place) refl e
      where
        by_device : (d : Option Device) → slice_get site.devices place ≡ d → target_at place d ≡ Some to → device_name site to.place ≡ Some name
        by_device None get e = absurd (cc)
        by_device (Some d) get e =
            let same : place ≡ to.place = ap (λ (t : Target). t.place) (same_Some (record { place = place; line = d.line; unit_id = d.unit }) to e) in
            let p = position-Some named site.devices place d at in
            let is : get_or site.devices place d ≡ d = same_Some (get_or site.devices place d) d (sym (got site.devices place d p.0) ∙ get) in
            let equal : d.name ≡ name = same_bytes d.name name (ap named (sym is) ∙ p.1) in
            ap (λ k. option_map (λ (x : Device). x.name) (slice_get site.devices k)) (sym same) ∙ ap (option_map (λ (x : Device). x.name)) get ∙ ap Some equal

-- a question's place is that of its device
question_named : (site : Site) (known line made : ℕ) (points : List PointRow) (device : List ℕ) (slot : ℕ) (read : Read) → ask_fault_on (target site device) line points made device read ≡ None
    → device_name site (question_to (target site device) device slot read known).place ≡ Some device
question_named site known line made points device slot read fault = by (target site device) refl fault
  where
    by : (o : Option Target) → target site device ≡ o → ask_fault_on o line points made device read ≡ None → device_name site (question_to o device slot read known).place ≡ Some device
    by None at e = absurd (cc)
    by (Some to) at e = target_named site device to at

old_or_new : (xs : List Query) (new q : Query) (k : ℕ) → slice_get (xs ++ new ∷ []) k ≡ Some q → (slice_get xs k ≡ Some q) ⊎ (new ≡ q)
old_or_new [] new q zero e = inr (same_Some new q e)
old_or_new [] new q (suc k) e = absurd (cc)
old_or_new (x ∷ xs) new q zero e = inl e
old_or_new (x ∷ xs) new q (suc k) e = old_or_new xs new q k e

-- in the site in force each read of an open connection has its device at its place
pub placed : (before : History) (c n : ℕ) (q : Question) → IsSome (open_line before c) → slice_get (asked before c) n ≡ Some (Reads q) → device_name (site_of before) q.place ≡ Some q.device
placed [] c n q some at = absurd (cc)
placed (Restart site ∷ before) c n q some at = absurd (cc)
placed (Load edition caller key list ∷ before) c n q some at = placed before c n q some at
placed (Order caller key point value ∷ before) c n q some at = placed before c n q some at
placed (Void caller key point slot ∷ before) c n q some at = placed before c n q some at
placed (Open name ∷ before) c n q some at =
    by (open_made before name) (eqb c (connections before + 1)) (same_line (line_place (site_of before) name) (open_line before c)) refl (λ s. placed before c n q s at) some
  where
    by : (b x y : Bool) → eqb c (connections before + 1) ≡ x → (IsSome (open_line before c) → device_name (site_of before) q.place ≡ Some q.device)
        → IsSome (cond b (cond x (line_place (site_of before) name) (cond y None (open_line before c))) (open_line before c)) → device_name (site_of before) q.place ≡ Some q.device
    by false x y is earlier s = earlier s
    by true true y is earlier s =
        let new : c ≡ connections before + 1 = eqb-true c (connections before + 1) is in
        let none : asked before c ≡ [] = unopened before c (omega (arith, new)) in
        let e : None ≡ Some (Reads q) = ap (λ (l : List Query). slice_get l n) (sym none) ∙ at in
        absurd (cc)
    by true false true is earlier s = absurd (cc)
    by true false false is earlier s = earlier s
placed (Ask conn device slot read ∷ before) c n q some at =
    by (eqb conn c) refl (ask_fault (open_line before conn) (site_of before) (points before) (length (asked before conn)) device read) refl (placed before c n q some) at
  where
    asking : Question
    asking = asks before device slot read

    new : (fault : ask_fault (open_line before conn) (site_of before) (points before) (length (asked before conn)) device read ≡ None) → device_name (site_of before) asking.place ≡ Some device
    new fault = by_line (open_line before conn) fault
      where
        by_line : (o : Option ℕ) → ask_fault o (site_of before) (points before) (length (asked before conn)) device read ≡ None → device_name (site_of before) asking.place ≡ Some device
        by_line None e = absurd (cc)
        by_line (Some line) e = question_named (site_of before) (length (points before)) line (length (asked before conn)) (points before) device slot read e

    by : (b : Bool) → eqb conn c ≡ b → (o : Option OfficeError) → ask_fault (open_line before conn) (site_of before) (points before) (length (asked before conn)) device read ≡ o
        → (slice_get (asked before c) n ≡ Some (Reads q) → device_name (site_of before) q.place ≡ Some q.device)
        → slice_get (cond (b && is_none o) (asked before c ++ Reads asking ∷ []) (asked before c)) n ≡ Some (Reads q) → device_name (site_of before) q.place ≡ Some q.device
    by false is o fault earlier e = earlier e
    by true is (Some f) fault earlier e = earlier e
    by true is None fault earlier e =
        elim (old_or_new (asked before c) (Reads asking) (Reads q) n e) [
          | inl old ↦ earlier old
          | inr same ↦ subst (λ (x : Question). device_name (site_of before) x.place ≡ Some x.device) (same_read asking q same) (new fault ∙ ap Some (sym (named_so (target (site_of before) device))))
        ]
      where
        named_so : (o : Option Target) → (question_to o device slot read (length (points before))).device ≡ device
        named_so None = refl
        named_so (Some to) = refl
placed (Send conn number ∷ before) c n q some at = by (eqb conn c && send_made before conn number) (placed before c n q some) at
  where
    by : (b : Bool) → (slice_get (asked before c) n ≡ Some (Reads q) → device_name (site_of before) q.place ≡ Some q.device)
        → slice_get (cond b (asked before c ++ Writes (sends before number) ∷ []) (asked before c)) n ≡ Some (Reads q) → device_name (site_of before) q.place ≡ Some q.device
    by true earlier e = elim (old_or_new (asked before c) (Writes (sends before number)) (Reads q) n e) [
      | inl old ↦ earlier old
      | inr same ↦ absurd (cc)
    ]
    by false earlier e = earlier e
placed (Reply m k unit ∷ before) c n q some at = placed before c n q some at
placed (Noise m frame ∷ before) c n q some at = placed before c n q some at
