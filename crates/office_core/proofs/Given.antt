-- What a reply gives.
use Rattle.std.proofs.Common.{◌≡◌, ◌≢◌, ℕ, zero, suc, ◌+◌, Bool, true, false, cond, eqb, List, [], ◌∷◌, map, take, length, Some, None, Option, refl, arith, subst, sym}
use Rattle.std.specs.Prelude.{All, Contains, filter, IfSome, ◌||◌}
use Rattle.std.proofs.lemmas.List.Elements.{All-nil, All-map, All-filter, All-take, All-contains_itself}
use Rattle.mb_pdu.specs.declared.reply.Reply.{Reply}
use Rattle.mb_pdu.specs.declared.reply.Reply.TheVariants.{Bits, Registers, Written, Excepted}
use Rattle.point_list.specs.declared.site.Site.{Site}
use Rattle.read_planner.specs.declared.Read.{Read}
use Rattle.poll_book.specs.declared.rows.OrderState.TheVariants.{Refused}
use Rattle.poll_book.specs.Orders.{is_waiting}
use Rattle.poll_book.specs.declared.rows.PointRow.{PointRow}
use Rattle.poll_book.specs.Tables.{Tables, new_rows}
use Rattle.poll_book.specs.Changes.{AreNumbered, keyed}
use Rattle.office_core.specs.declared.event.Arrival.TheVariants.{Recorded}
use Rattle.office_core.specs.Sites.{device_name}
use Rattle.office_core.specs.Cover.{covers, words_in, given_at, given_of, given_named, reply_cells}
use Rattle.office_core.specs.declared.cover.Asking.{Asking}
use Rattle.office_core.specs.Keeping.{AreCovered, IsCopy, Rises, with_given, rows_at, brought_read, read_arrival, reply_state}
use Rattle.office_core.proofs.Newness.{rises_from}

-- the points that a read covers rise with their numbers
pub rises_given : (slot : ℕ) (device : List ℕ) (read : Read) (words : List ℕ) (n : ℕ) (known : List PointRow) (k : ℕ) → AreNumbered n known
    → Rises n (keyed slot (given_of (take k known) device read words))
rises_given slot device read words n [] zero numbered = tt
rises_given slot device read words n [] (suc k) numbered = tt
rises_given slot device read words n (point ∷ known) zero numbered = tt
rises_given slot device read words n (point ∷ known) (suc k) numbered =
    by (covers device read point.point) (rises_given slot device read words (n + 1) known k numbered.1)
  where
    rest : List PointRow
    rest = filter (λ (x : PointRow). covers device read x.point) (take k known)

    by : (b : Bool) → Rises (n + 1) (keyed slot (map (λ (x : PointRow). (x, words_in read words x.point)) rest))
        → Rises n (keyed slot (map (λ (x : PointRow). (x, words_in read words x.point)) (cond b (point ∷ rest) rest)))
    by true r = let next = numbered.0 in (omega arith, subst (λ m. Rises m (keyed slot (map (λ (x : PointRow). (x, words_in read words x.point)) rest))) (sym next) r)
    by false r = rises_from n (n + 1) (keyed slot (map (λ (x : PointRow). (x, words_in read words x.point)) rest)) (omega arith) r

pub rises_at : (site : Site) (known : List PointRow) (asking : Asking) (reply : Reply) → AreNumbered 0 known → Rises 0 (rows_at site known asking reply)
rises_at site known asking reply numbered = by (device_name site asking.device)
  where
    by : (o : Option (List ℕ)) → Rises 0 (keyed asking.slot (given_named (take asking.known known) o asking.read (reply_cells reply)))
    by None = tt
    by (Some device) = rises_given asking.slot device asking.read (reply_cells reply) 0 known asking.known numbered

-- the points that a reply gives to are known, and rise
given_there : (all : List PointRow) (device : List ℕ) (read : Read) (words : List ℕ) (k : ℕ) → All (λ c. Contains all c.0) (given_of (take k all) device read words)
given_there all device read words k =
    All-map (λ (c : PointRow × List ℕ). Contains all c.0) (λ (x : PointRow). (x, words_in read words x.point)) (filter (λ (x : PointRow). covers device read x.point) (take k all))
    (All-filter (λ (x : PointRow). covers device read x.point) (Contains all) (take k all) (All-take (Contains all) k all (All-contains_itself all)))

there_at : (site : Site) (known : List PointRow) (asking : Asking) (words : List ℕ) → All (λ c. Contains known c.0) (given_at site known asking words)
there_at site known asking words = by (device_name site asking.device)
  where
    by : (o : Option (List ℕ)) → All (λ c. Contains known c.0) (given_named (take asking.known known) o asking.read words)
    by None = All-nil (λ (c : PointRow × List ℕ). Contains known c.0)
    by (Some device) = given_there known device asking.read words asking.known

pub covered_known : (site : Site) (known : List PointRow) (asking : Asking) (reply : Reply) (kept : Tables) (covered : List (PointRow × List ℕ))
    → covered ≡ given_at site known asking (reply_cells reply) → IsCopy known kept → AreCovered kept.points asking.slot covered
covered_known site known asking reply kept covered is copy = subst (AreCovered kept.points asking.slot) (sym is) (record {
  known = subst (λ (l : List PointRow). All (λ c. Contains l c.0) (given_at site known asking (reply_cells reply))) copy.0 (there_at site known asking (reply_cells reply));
  rise = rises_at site known asking reply (subst (AreNumbered 0) (sym copy.0) copy.1.points);
})

-- a reply that is no exception
pub brought_rows : (site : Site) (known : List PointRow) (asking : Asking) (reply : Reply) (kept : Tables) → ((code : ℕ) → reply ≢ Excepted code)
    → brought_read site known asking reply kept ≡ with_given (rows_at site known asking reply) kept
brought_rows site known asking (Bits bits) kept normal = refl
brought_rows site known asking (Registers words) kept normal = refl
brought_rows site known asking Written kept normal = refl
brought_rows site known asking (Excepted code) kept normal = absurd (normal code refl)

pub arrival_rows : (site : Site) (known : List PointRow) (asking : Asking) (reply : Reply) (kept : Tables) → ((code : ℕ) → reply ≢ Excepted code)
    → read_arrival site known asking reply kept ≡ Recorded (length (new_rows kept.readings (rows_at site known asking reply)))
arrival_rows site known asking (Bits bits) kept normal = refl
arrival_rows site known asking (Registers words) kept normal = refl
arrival_rows site known asking Written kept normal = refl
arrival_rows site known asking (Excepted code) kept normal = absurd (normal code refl)

-- ---- a reply to a write

-- no reply leaves an order waiting that it settles
pub reply_settles : (reply : Reply) → IfSome (reply_state reply) (λ state. is_waiting state ≡ false)
reply_settles (Bits bits) = refl
reply_settles (Registers words) = refl
reply_settles Written = refl
reply_settles (Excepted code) = by (eqb code 5 || eqb code 6)
  where
    by : (b : Bool) → IfSome (cond b None (Some (Refused code))) (λ state. is_waiting state ≡ false)
    by true = tt
    by false = refl
