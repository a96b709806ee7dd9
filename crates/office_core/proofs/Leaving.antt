-- What a crash leaves, call by call.
use Rattle.std.proofs.Common.{◌≡◌, ◌⊎◌, inl, inr, ◌∙◌, ℕ, Bool, true, false, List, ◌∷◌, None, refl, sym, subst}
use Rattle.point_list.specs.declared.site.Site.{Site}
use Rattle.read_planner.specs.declared.Read.{Read}
use Rattle.poll_match.specs.Window.{Open as OpenOne}
use Rattle.poll_book.specs.declared.rows.PointRow.{PointRow}
use Rattle.poll_book.specs.Requests.{RequestKey, request_at}
use Rattle.poll_book.specs.Tables.{Tables, Within}
use Rattle.office_core.specs.declared.event.Event.{Event}
use Rattle.office_core.specs.declared.event.Event.TheVariants as event
use Rattle.office_core.specs.declared.event.EventAnswer.{EventAnswer}
use Rattle.office_core.specs.History.{Happening, Restart, Load, Order, Void, Open, Ask, Send, Reply, Noise, History, requests, tables}
use Rattle.office_core.specs.Leavings.{LeftAfter, Leaves}
use Rattle.office_core.specs.Legal.{MayHappen}
use Rattle.office_core.specs.Standing.{Goes, Sees, StandsFor, is_store}
use Rattle.office_core.proofs.Newness.{left_within}

-- it holds these tables, and they are those
abbrev pub At : (Tables → Type 0) → Tables → Tables → Type 0
At holds at kept = holds kept × (kept ≡ at)

-- a crash leaves that after what made these tables
abbrev pub Left : (Tables → Type 0) → (Tables → Type 0) → Tables → Bool → Tables → Type 0
Left may may' at refused kept = Within may' (LeftAfter may at kept refused)

module _ (holds may may' : Tables → Type 0) (now : Site) (known : List PointRow) (all : List OpenOne) where
  pub stands_at : (before : History) → StandsFor holds now known all before → StandsFor (At holds (tables before)) now known all before
  stands_at before stands = record { tables = (stands.tables, refl); site = stands.site; points = stands.points; connections = stands.connections }

  -- what the store refused before it was tried
  pub leaves_refused : (stands : History → Type 0) (seen : Event) (told : EventAnswer) → is_store told ≡ true → Within may' may → Leaves stands may may' seen told
  leaves_refused stands seen told store within before happening s can sees left m =
      subst (λ b. LeftAfter may (tables before) (tables (happening ∷ before)) b left) (sym store) (inl (within left m))

  -- what writes nothing
  pub leaves_same : (now' : Site) (known' : List PointRow) (all' : List OpenOne) (seen : Event) (told : EventAnswer) → Within may' may
      → ((at : Tables) → Goes (StandsFor (At holds at) now known all) (StandsFor (λ kept. kept ≡ at) now' known' all') seen told)
      → Leaves (StandsFor holds now known all) may may' seen told
  leaves_same now' known' all' seen told within goes before happening stands can sees left m = by (is_store told) refl
    where
      by : (b : Bool) → is_store told ≡ b → LeftAfter may (tables before) (tables (happening ∷ before)) b left
      by true store = inl (within left m)
      by false store = inr ((((goes (tables before)).happened before happening (stands_at before stands) can sees store).0).tables, within left m)

  -- what was written, or tried, and would be told so
  pub leaves_made : (now' : Site) (known' : List PointRow) (all' : List OpenOne) (seen : Event) (told made : EventAnswer) (b : Bool) → is_store told ≡ b → is_store made ≡ false
      → ((at : Tables) → Goes (StandsFor (At holds at) now known all) (StandsFor (Left may may' at b) now' known' all') seen made)
      → Leaves (StandsFor holds now known all) may may' seen told
  leaves_made now' known' all' seen told made b store is_made goes before happening stands can sees left m =
      subst (λ x. LeftAfter may (tables before) (tables (happening ∷ before)) x left) (sym store)
      ((((goes (tables before)).happened before happening (stands_at before stands) can sees is_made).0).tables left m)

  -- the same under a key that wasn't used
  pub leaves_unused : (key : RequestKey) (now' : Site) (known' : List PointRow) (all' : List OpenOne) (seen : Event) (told made : EventAnswer) (b : Bool)
      → is_store told ≡ b → is_store made ≡ false
      → ((at : Tables) → Goes (λ before. StandsFor (At holds at) now known all before × (request_at (requests before) key ≡ None)) (StandsFor (Left may may' at b) now' known' all') seen made)
      → Leaves (λ before. StandsFor holds now known all before × (request_at (requests before) key ≡ None)) may may' seen told
  leaves_unused key now' known' all' seen told made b store is_made goes before happening stands can sees left m =
      subst (λ x. LeftAfter may (tables before) (tables (happening ∷ before)) x left) (sym store)
      ((((goes (tables before)).happened before happening (stands_at before stands.0, stands.1) can sees is_made).0).tables left m)

  -- what changes nothing
  pub leaves_still : (all' : List OpenOne) (seen : Event) (told : EventAnswer) → Within may' may
      → ((at : Tables) → Goes (StandsFor (At holds at) now known all) (StandsFor (At holds at) now known all') seen told)
      → Leaves (StandsFor holds now known all) may may' seen told
  leaves_still all' seen told within goes before happening stands can sees left m = by (is_store told) refl
    where
      by : (b : Bool) → is_store told ≡ b → LeftAfter may (tables before) (tables (happening ∷ before)) b left
      by true store = inl (within left m)
      by false store = inr ((((goes (tables before)).happened before happening (stands_at before stands) can sees store).0).tables.1, within left m)

-- a change that was tried after calls that only read
pub tried_is : (may may' : Tables → Type 0) (tried made left : Tables) → Within may' may → tried ≡ made → may' left ⊎ (left ≡ tried) → may left ⊎ (left ≡ made)
tried_is may may' tried made left within is (inl was) = inl (within left was)
tried_is may may' tried made left within is (inr so) = inr (so ∙ is)

-- what the store refused when it was tried
pub leaves_tried : (stands : History → Type 0) (may may' : Tables → Type 0) (seen : Event) (told : EventAnswer) → is_store told ≡ true
    → ((before : History) (happening : Happening) → stands before → MayHappen before happening → Sees before happening seen
    → (left : Tables) → may' left → may left ⊎ (left ≡ tables (happening ∷ before)))
    → Leaves stands may may' seen told
leaves_tried stands may may' seen told store tried before happening s can sees left m =
    subst (λ x. LeftAfter may (tables before) (tables (happening ∷ before)) x left) (sym store) (tried before happening s can sees left m)

-- after calls that only read
pub leaves_after : (stands stands' : History → Type 0) (may may' may'' : Tables → Type 0) (seen : Event) (told : EventAnswer) → ((before : History) → stands before → stands' before)
    → Within may' may → Leaves stands' may' may'' seen told → Leaves stands may may'' seen told
leaves_after stands stands' may may' may'' seen told into within leaves before happening s can sees left m =
    left_within may may' (tables before) (tables (happening ∷ before)) (is_store told) within left (leaves before happening (into before s) can sees left m)

-- what writes nothing whatever it is told
pub leaves_unwritten : (stands : History → Type 0) (may may' : Tables → Type 0) (seen : Event) (told : EventAnswer)
    → ((before : History) (happening : Happening) → Sees before happening seen → tables (happening ∷ before) ≡ tables before)
    → Within may' may → Leaves stands may may' seen told
leaves_unwritten stands may may' seen told same within before happening s can sees left m = by (is_store told)
  where
    by : (b : Bool) → LeftAfter may (tables before) (tables (happening ∷ before)) b left
    by true = inl (within left m)
    by false = inr (same before happening sees, within left m)

-- asks, sends and restarts write nothing
pub ask_writes_nothing : (conn : ℕ) (device : List ℕ) (slot : ℕ) (read : Read) (before : History) (happening : Happening) → Sees before happening (event.Ask conn device slot read)
    → tables (happening ∷ before) ≡ tables before
ask_writes_nothing conn device slot read before (Restart site) sees = refl
ask_writes_nothing conn device slot read before (Load edition caller key list) sees = absurd sees
ask_writes_nothing conn device slot read before (Order caller key point value) sees = absurd sees
ask_writes_nothing conn device slot read before (Void caller key point at) sees = absurd sees
ask_writes_nothing conn device slot read before (Open line) sees = absurd sees
ask_writes_nothing conn device slot read before (Ask c d s r) sees = refl
ask_writes_nothing conn device slot read before (Send c n) sees = refl
ask_writes_nothing conn device slot read before (Reply c n unit) sees = absurd sees
ask_writes_nothing conn device slot read before (Noise c frame) sees = refl

pub send_writes_nothing : (conn number : ℕ) (before : History) (happening : Happening) → Sees before happening (event.Send conn number) → tables (happening ∷ before) ≡ tables before
send_writes_nothing conn number before (Restart site) sees = refl
send_writes_nothing conn number before (Load edition caller key list) sees = absurd sees
send_writes_nothing conn number before (Order caller key point value) sees = absurd sees
send_writes_nothing conn number before (Void caller key point at) sees = absurd sees
send_writes_nothing conn number before (Open line) sees = absurd sees
send_writes_nothing conn number before (Ask c d s r) sees = refl
send_writes_nothing conn number before (Send c n) sees = refl
send_writes_nothing conn number before (Reply c n unit) sees = absurd sees
send_writes_nothing conn number before (Noise c frame) sees = refl

pub restart_writes_nothing : (before : History) (happening : Happening) → Sees before happening event.Restart → tables (happening ∷ before) ≡ tables before
restart_writes_nothing before (Restart site) sees = refl
restart_writes_nothing before (Load edition caller key list) sees = absurd sees
restart_writes_nothing before (Order caller key point value) sees = absurd sees
restart_writes_nothing before (Void caller key point at) sees = absurd sees
restart_writes_nothing before (Open line) sees = absurd sees
restart_writes_nothing before (Ask c d s r) sees = refl
restart_writes_nothing before (Send c n) sees = refl
restart_writes_nothing before (Reply c n unit) sees = absurd sees
restart_writes_nothing before (Noise c frame) sees = refl
