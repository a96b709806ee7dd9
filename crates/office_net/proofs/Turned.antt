-- What became of a round's jobs.
use Rattle.std.proofs.Common.{◌≡◌, ◌⊎◌, ◌<◌, ℕ, zero, suc, true, false, List, [], ◌∷◌, ◌++◌, length, get_or, Some, inl, inr, sym, ap, ◌∙◌, subst, arith, ⊎_elim}
use Rattle.std.specs.Prelude.{Contains, is_some}
use Rattle.read_planner.specs.declared.Read.{Read as AskedRead}
use Rattle.poll_book.specs.declared.rows.Setting.{Setting}
use Rattle.office_core.specs.Lacking.{lacks}
use Rattle.office_net.specs.declared.job.LineJob.{LineJob}
use Rattle.office_net.specs.declared.job.LineJob.TheVariants.{Order, Read}
use Rattle.office_net.specs.Moves.{Start, Move, Asks, Passes, Comes, told, jobs_in, is_due, next_order, number_of, IsRun}
use Rattle.office_net.specs.Turned.{AllAsked, IsAsked, IsSent, IsSettled}
use Rattle.office_net.proofs.Lacked.{lacked_begun, none_next}
use Rattle.office_net.proofs.Settling.{due_begun, order_at_turn, still_settled}

-- what is due at its turn was due as the round began
job_begun : (start : Start) (moves : List Move) (job : LineJob) → is_due start.slot (told start moves) job ≡ true → is_due start.slot start.before job ≡ true
job_begun start moves (Order device) due = due_begun start moves device due
job_begun start moves (Read device read) due = lacked_begun start device start.slot read moves due

pub all_due : (start : Start) (moves : List Move) → IsRun start moves → AllAsked (λ job. is_due start.slot start.before job ≡ true) moves
all_due start [] run = tt
all_due start (Asks job ∷ moves) (due, made, room, run) = (job_begun start moves job due, all_due start moves run)
all_due start (Passes job ∷ moves) (cause, run) = all_due start moves run
all_due start (Comes frame ∷ moves) (waits, run) = all_due start moves run

-- ---- lists

one_on : {A : Type 0} (z : A) (xs : List A) (x y : A) → Contains xs y ⊎ (x ≡ y) → Contains (z ∷ xs) y ⊎ (x ≡ y)
one_on z xs x y (inl c) = let below = c.1 in inl (suc c.0, omega (arith, below), c.2)
one_on z xs x y (inr e) = inr e

-- what stands in a list with one more stands in the list, or is that one
last_or : {A : Type 0} (xs : List A) (x y : A) → Contains (xs ++ x ∷ []) y → Contains xs y ⊎ (x ≡ y)
last_or {A = A} xs x y (k, below, is) = by xs k below is
  where
    by : (xs : List A) (k : ℕ) → k < length (xs ++ x ∷ []) → get_or (xs ++ x ∷ []) k y ≡ y → Contains xs y ⊎ (x ≡ y)
    by [] zero below is = inr is
    by [] (suc k) below is = absurd (omega (arith, below))
    by (z ∷ xs) zero below is = inl (zero, omega arith, is)
    by (z ∷ xs) (suc k) below is = one_on z xs x y (by xs k (omega (arith, below)) is)

none_in : {A : Type 0} (x : A) → Contains [] x → ⊥
none_in x (k, below, is) = absurd (omega (arith, below))

-- ---- reads

-- a read that had its turn was asked, or lacks nothing
module _ (start : Start) (device : List ℕ) (read : AskedRead) where
  read_turned : (moves : List Move) → IsRun start moves → Contains (jobs_in moves) (Read device read)
      → IsAsked (Read device read) moves ⊎ (lacks (told start moves) device start.slot read ≡ false)
  read_turned [] run among = absurd (none_in (Read device read) among)
  read_turned (Asks job ∷ moves) (due, made, room, run) among =
      ⊎_elim
      (λ (earlier : Contains (jobs_in moves) (Read device read)). ⊎_elim
      (λ (asked : IsAsked (Read device read) moves). inl (inr asked))
      (λ (none : lacks (told start moves) device start.slot read ≡ false). inr (none_next start device start.slot read (Asks job) moves none))
      (read_turned moves run earlier))
      (λ (own : job ≡ Read device read). inl (inl own))
      (last_or (jobs_in moves) job (Read device read) among)
  read_turned (Passes job ∷ moves) (idle, run) among =
      ⊎_elim
      (λ (earlier : Contains (jobs_in moves) (Read device read)). ⊎_elim
      (λ (asked : IsAsked (Read device read) moves). inl asked)
      (λ (none : lacks (told start moves) device start.slot read ≡ false). inr none)
      (read_turned moves run earlier))
      (λ (own : job ≡ Read device read). inr (subst (λ j. is_due start.slot (told start moves) j ≡ false) own idle))
      (last_or (jobs_in moves) job (Read device read) among)
  read_turned (Comes frame ∷ moves) (waits, run) among =
      ⊎_elim
      (λ (asked : IsAsked (Read device read) moves). inl asked)
      (λ (none : lacks (told start moves) device start.slot read ≡ false). inr (none_next start device start.slot read (Comes frame) moves none))
      (read_turned moves run among)

pub reads_asked : (start : Start) (moves : List Move) (device : List ℕ) (read : AskedRead) → IsRun start moves → jobs_in moves ≡ start.jobs → Contains start.jobs (Read device read)
    → IsAsked (Read device read) moves ⊎ (lacks (told start moves) device start.slot read ≡ false)
reads_asked start moves device read run all among = read_turned start device read moves run (subst (λ jobs. Contains jobs (Read device read)) (sym all) among)

-- ---- orders

-- an order that was sent was sent
sent_more : (start : Start) (order : ℕ) (job : LineJob) (moves : List Move) → IsSent start order moves → IsSent start order (Asks job ∷ moves)
sent_more start order (Order device) moves sent = inr sent
sent_more start order (Read device read) moves sent = sent

module _ (start : Start) (device : List ℕ) (order : ℕ) (setting : Setting) (oldest : next_order start.before device ≡ Some (order, setting)) where
  -- at the turn of its device it is sent, if it waits
  sent_now : (moves : List Move) (job : LineJob) → job ≡ Order device → IsSent start order (Asks job ∷ moves) ⊎ IsSettled (told start moves) order
  sent_now moves job own = subst (λ j. IsSent start order (Asks j ∷ moves) ⊎ IsSettled (told start moves) order) (sym own) (⊎_elim
      (λ (next : (now : Setting) × (next_order (told start moves) device ≡ Some (order, now))). inl (inl (ap number_of next.1)))
      (λ (settled : IsSettled (told start moves) order). inr settled)
      (order_at_turn start moves device order setting oldest))

  -- and where the device is passed over, it doesn't wait
  passed_now : (moves : List Move) (job : LineJob) → job ≡ Order device → is_due start.slot (told start moves) job ≡ false → IsSettled (told start moves) order
  passed_now moves job own idle = ⊎_elim
      (λ (next : (now : Setting) × (next_order (told start moves) device ≡ Some (order, now))).
      let on : true ≡ false = sym (ap is_some next.1) ∙ subst (λ j. is_due start.slot (told start moves) j ≡ false) own idle in absurd (cc))
      (λ (settled : IsSettled (told start moves) order). settled)
      (order_at_turn start moves device order setting oldest)

  order_turned : (moves : List Move) → IsRun start moves → Contains (jobs_in moves) (Order device) → IsSent start order moves ⊎ IsSettled (told start moves) order
  order_turned [] run among = absurd (none_in (Order device) among)
  order_turned (Asks job ∷ moves) (due, made, room, run) among =
      ⊎_elim
      (λ (earlier : Contains (jobs_in moves) (Order device)). ⊎_elim
      (λ (sent : IsSent start order moves). inl (sent_more start order job moves sent))
      (λ (settled : IsSettled (told start moves) order). inr (still_settled start (Asks job) moves order settled))
      (order_turned moves run earlier))
      (λ (own : job ≡ Order device). ⊎_elim
      (λ (sent : IsSent start order (Asks job ∷ moves)). inl sent)
      (λ (settled : IsSettled (told start moves) order). inr (still_settled start (Asks job) moves order settled))
      (sent_now moves job own))
      (last_or (jobs_in moves) job (Order device) among)
  order_turned (Passes job ∷ moves) (idle, run) among =
      ⊎_elim
      (λ (earlier : Contains (jobs_in moves) (Order device)). order_turned moves run earlier)
      (λ (own : job ≡ Order device). inr (passed_now moves job own idle))
      (last_or (jobs_in moves) job (Order device) among)
  order_turned (Comes frame ∷ moves) (waits, run) among =
      ⊎_elim
      (λ (sent : IsSent start order moves). inl sent)
      (λ (settled : IsSettled (told start moves) order). inr (still_settled start (Comes frame) moves order settled))
      (order_turned moves run among)

pub orders_sent : (start : Start) (moves : List Move) (device : List ℕ) (order : ℕ) (setting : Setting) → IsRun start moves → jobs_in moves ≡ start.jobs → Contains start.jobs (Order device)
    → next_order start.before device ≡ Some (order, setting) → IsSent start order moves ⊎ IsSettled (told start moves) order
orders_sent start moves device order setting run all among oldest =
    order_turned start device order setting oldest moves run (subst (λ jobs. Contains jobs (Order device)) (sym all) among)
