use Rattle.std.proofs.Common.{◌≡◌, inl, inr, sym, subst, arith, rules, refl, IsTrue}
use Rattle.sqlite.specs.Effect.{IsDatabase}
use Rattle.sqlite.specs.Held.{state}
use Rattle.sqlite.specs.State.{HasCleanDisk}
use Rattle.poll_book.specs.Changes.{applied}
use Rattle.office_store.specs.Kept.{IsHeld, MayLeave}
use Rattle.office_store.specs.Writing.{IsEmpty}
use Rattle.office_store.proofs.Committing.{within_begun, held_after, held_still, leaves, leaves_commit, leaves_dropped, was_open}
use Rattle.office_store.proofs.apply.write.Goals as goal

pub returns-in-Ok-clause-ok : goal.returns-in-Ok-clause-ok
returns-in-Ok-clause-ok g c kept holds fresh clean now_open =
    let old = c.args.connection.now in
    let begun = c.transaction-tx.result.conn.now in
    let last = c.put_change.new.tx.conn.now in
    let end = c.commit.new.self.0 in
    let after = applied c.args.change.now kept in
    let same : end ≡ c.connection-2-1.given.0 = search rules in
    let late : HasCleanDisk (state g.S.Store end) = subst (λ h. HasCleanDisk (state g.S.Store h)) (sym same) clean in
    let clean_last : HasCleanDisk (state g.S.Store last) = omega (arith, late, c.commit.ensures.survives.clean) in
    let clean_begun : HasCleanDisk (state g.S.Store begun) = omega (arith, clean_last, c.put_change.ensures.survives.clean) in
    let begins = c.transaction-tx.ensures.begun in
    let first : HasCleanDisk (state g.S.Store old) = subst (λ h. HasCleanDisk (state g.S.Store h)) begins clean_begun in
    let inside = subst (λ h. IsTrue (state g.S.Store h).in_transaction) (sym begins) refl in
    let opened = was_open g.S.Store old begun begins (IsEmpty c.args.change.now) c.requires.filled (c.in_ok-put_change.ensures.opened clean_last inside) in
    let within = within_begun g.S.Store old begun last begins kept after (holds first opened) opened c.requires.live in
    let last_within = c.in_ok-put_change.ensures.put clean_last (state g.S.Store old).committed kept within fresh in
    subst (λ h. IsHeld (state g.S.Store h) after) same (held_after g.S.Store old begun last begins kept after (state g.S.Store end) last_within (c.in-Ok.ensures.ok late).1)

pub returns-in-Ok-clause-crash : goal.returns-in-Ok-clause-crash
returns-in-Ok-clause-crash g c clean kept holds fresh left may =
    let old = c.args.connection.now in
    let begun = c.transaction-tx.result.conn.now in
    let last = c.put_change.new.tx.conn.now in
    let end = c.commit.new.self.0 in
    let after = applied c.args.change.now kept in
    let same : end ≡ c.connection-2-1.given.0 = search rules in
    let late : HasCleanDisk (state g.S.Store end) = subst (λ h. HasCleanDisk (state g.S.Store h)) (sym same) clean in
    let clean_last : HasCleanDisk (state g.S.Store last) = omega (arith, late, c.commit.ensures.survives.clean) in
    let clean_begun : HasCleanDisk (state g.S.Store begun) = omega (arith, clean_last, c.put_change.ensures.survives.clean) in
    let begins = c.transaction-tx.ensures.begun in
    let first : HasCleanDisk (state g.S.Store old) = subst (λ h. HasCleanDisk (state g.S.Store h)) begins clean_begun in
    let inside = subst (λ h. IsTrue (state g.S.Store h).in_transaction) (sym begins) refl in
    let opened = was_open g.S.Store old begun begins (IsEmpty c.args.change.now) c.requires.filled (c.in_ok-put_change.ensures.opened clean_last inside) in
    let within = within_begun g.S.Store old begun last begins kept after (holds first opened) opened c.requires.live in
    let last_within = c.in_ok-put_change.ensures.put clean_last (state g.S.Store old).committed kept within fresh in
    let at_end = subst (λ h. (state g.S.Store h).may_leave may.0) (sym same) may.1 in
    leaves g.S.Store old begun last begins kept after left may.0 last_within may.2 (elim (c.commit.ensures.survives.crash late may.0 at_end) [
      | inl was ↦ inl (c.put_change.ensures.survives.crash clean_last may.0 was)
      | inr made ↦ inr made
    ])

pub returns-in-Ok-clause-durable : goal.returns-in-Ok-clause-durable
returns-in-Ok-clause-durable g c clean kept holds fresh left may =
    let old = c.args.connection.now in
    let begun = c.transaction-tx.result.conn.now in
    let last = c.put_change.new.tx.conn.now in
    let end = c.commit.new.self.0 in
    let after = applied c.args.change.now kept in
    let same : end ≡ c.connection-2-1.given.0 = search rules in
    let late : HasCleanDisk (state g.S.Store end) = subst (λ h. HasCleanDisk (state g.S.Store h)) (sym same) clean in
    let clean_last : HasCleanDisk (state g.S.Store last) = omega (arith, late, c.commit.ensures.survives.clean) in
    let clean_begun : HasCleanDisk (state g.S.Store begun) = omega (arith, clean_last, c.put_change.ensures.survives.clean) in
    let begins = c.transaction-tx.ensures.begun in
    let first : HasCleanDisk (state g.S.Store old) = subst (λ h. HasCleanDisk (state g.S.Store h)) begins clean_begun in
    let inside = subst (λ h. IsTrue (state g.S.Store h).in_transaction) (sym begins) refl in
    let opened = was_open g.S.Store old begun begins (IsEmpty c.args.change.now) c.requires.filled (c.in_ok-put_change.ensures.opened clean_last inside) in
    let within = within_begun g.S.Store old begun last begins kept after (holds first opened) opened c.requires.live in
    let last_within = c.in_ok-put_change.ensures.put clean_last (state g.S.Store old).committed kept within fresh in
    let shows = (c.in-Ok.ensures.ok late).1 in
    let sound : IsDatabase (state g.S.Store end).now = subst IsDatabase (sym shows.now_is) last_within.sound in
    let may_end = subst (λ h. MayLeave (state g.S.Store h) left) (sym same) may in
    leaves_commit g.S.Store end after left (λ db. g.met.S.Store.settled end.store db) shows.is_open sound (held_after g.S.Store old begun last begins kept after (state g.S.Store end) last_within shows) may_end

pub returns-in-Err-clause-err : goal.returns-in-Err-clause-err
returns-in-Err-clause-err g c kept holds clean now_open =
    let old = c.args.connection.now in
    let begun = c.transaction-tx.result.conn.now in
    let last = c.put_change.new.tx.conn.now in
    let end = c.commit.new.self.0 in
    let same : end ≡ c.connection-2-1.given.0 = search rules in
    let late : HasCleanDisk (state g.S.Store end) = subst (λ h. HasCleanDisk (state g.S.Store h)) (sym same) clean in
    let clean_last : HasCleanDisk (state g.S.Store last) = omega (arith, late, c.commit.ensures.survives.clean) in
    let clean_begun : HasCleanDisk (state g.S.Store begun) = omega (arith, clean_last, c.put_change.ensures.survives.clean) in
    let begins = c.transaction-tx.ensures.begun in
    let first : HasCleanDisk (state g.S.Store old) = subst (λ h. HasCleanDisk (state g.S.Store h)) begins clean_begun in
    let inside = c.in_ok-put_change.ensures.inside clean_last (subst (λ h. IsTrue (state g.S.Store h).in_transaction) (sym begins) refl) in
    let end_open = subst (λ h. IsTrue (state g.S.Store h).is_open) (sym same) now_open in
    subst (λ h. IsHeld (state g.S.Store h) kept) same
    (held_still g.S.Store old begun last (state g.S.Store end) c.in-Err.error kept begins (c.put_change.ensures.kept clean_last) inside (c.in-Err.ensures.err late) end_open (holds first))

pub returns-in-Err-clause-crash : goal.returns-in-Err-clause-crash
returns-in-Err-clause-crash g c clean kept holds fresh left may =
    let old = c.args.connection.now in
    let begun = c.transaction-tx.result.conn.now in
    let last = c.put_change.new.tx.conn.now in
    let end = c.commit.new.self.0 in
    let after = applied c.args.change.now kept in
    let same : end ≡ c.connection-2-1.given.0 = search rules in
    let late : HasCleanDisk (state g.S.Store end) = subst (λ h. HasCleanDisk (state g.S.Store h)) (sym same) clean in
    let clean_last : HasCleanDisk (state g.S.Store last) = omega (arith, late, c.commit.ensures.survives.clean) in
    let clean_begun : HasCleanDisk (state g.S.Store begun) = omega (arith, clean_last, c.put_change.ensures.survives.clean) in
    let begins = c.transaction-tx.ensures.begun in
    let first : HasCleanDisk (state g.S.Store old) = subst (λ h. HasCleanDisk (state g.S.Store h)) begins clean_begun in
    let inside = subst (λ h. IsTrue (state g.S.Store h).in_transaction) (sym begins) refl in
    let opened = was_open g.S.Store old begun begins (IsEmpty c.args.change.now) c.requires.filled (c.in_ok-put_change.ensures.opened clean_last inside) in
    let within = within_begun g.S.Store old begun last begins kept after (holds first opened) opened c.requires.live in
    let last_within = c.in_ok-put_change.ensures.put clean_last (state g.S.Store old).committed kept within fresh in
    let at_end = subst (λ h. (state g.S.Store h).may_leave may.0) (sym same) may.1 in
    leaves g.S.Store old begun last begins kept after left may.0 last_within may.2 (elim (c.commit.ensures.survives.crash late may.0 at_end) [
      | inl was ↦ inl (c.put_change.ensures.survives.crash clean_last may.0 was)
      | inr made ↦ inr made
    ])

pub returns-in_err-put_change-clause-crash : goal.returns-in_err-put_change-clause-crash
returns-in_err-put_change-clause-crash g c clean kept holds fresh left may =
    let old = c.args.connection.now in
    let begun = c.transaction-tx.result.conn.now in
    let last = c.put_change.new.tx.conn.now in
    let end = c.drop-tx.new.self.0 in
    let same : end ≡ c.connection-1.given.0 = search rules in
    let late : HasCleanDisk (state g.S.Store end) = subst (λ h. HasCleanDisk (state g.S.Store h)) (sym same) clean in
    let clean_last : HasCleanDisk (state g.S.Store last) = omega (arith, late, c.drop-tx.ensures.survives.clean) in
    let at_end = subst (λ h. (state g.S.Store h).may_leave may.0) (sym same) may.1 in
    elim (c.drop-tx.ensures.survives.crash late may.0 at_end) [
      | inl was ↦ elim (c.put_change.ensures.survives.crash clean_last may.0 was) [
        | inl first ↦ leaves_dropped g.S.Store old begun left (applied c.args.change.now kept) may.0 c.transaction-tx.ensures.begun may.2 first
        | inr none ↦ absurd none
      ]
      | inr none ↦ absurd none
    ]

pub returns-in-Ok-clause-was_open : goal.returns-in-Ok-clause-was_open
returns-in-Ok-clause-was_open g c clean now_open =
    let old = c.args.connection.now in
    let begun = c.transaction-tx.result.conn.now in
    let last = c.put_change.new.tx.conn.now in
    let end = c.commit.new.self.0 in
    let same : end ≡ c.connection-2-1.given.0 = search rules in
    let late : HasCleanDisk (state g.S.Store end) = subst (λ h. HasCleanDisk (state g.S.Store h)) (sym same) clean in
    let clean_last : HasCleanDisk (state g.S.Store last) = omega (arith, late, c.commit.ensures.survives.clean) in
    let end_open = subst (λ h. IsTrue (state g.S.Store h).is_open) (sym same) now_open in
    let last_open = (c.in-Ok.ensures.ok late).1.was_open in
    subst (λ h. IsTrue (state g.S.Store h).is_open) c.transaction-tx.ensures.begun ((c.put_change.ensures.kept clean_last).was_open last_open)

pub returns-in-Err-clause-was_open : goal.returns-in-Err-clause-was_open
returns-in-Err-clause-was_open g c clean now_open =
    let old = c.args.connection.now in
    let begun = c.transaction-tx.result.conn.now in
    let last = c.put_change.new.tx.conn.now in
    let end = c.commit.new.self.0 in
    let same : end ≡ c.connection-2-1.given.0 = search rules in
    let late : HasCleanDisk (state g.S.Store end) = subst (λ h. HasCleanDisk (state g.S.Store h)) (sym same) clean in
    let clean_last : HasCleanDisk (state g.S.Store last) = omega (arith, late, c.commit.ensures.survives.clean) in
    let end_open = subst (λ h. IsTrue (state g.S.Store h).is_open) (sym same) now_open in
    let last_open : IsTrue (state g.S.Store last).is_open = elim (c.in-Err.ensures.err late) [ inl fails ↦ fails.3.was_open end_open | inr ended ↦ ended.2.0.was_open ] in
    subst (λ h. IsTrue (state g.S.Store h).is_open) c.transaction-tx.ensures.begun ((c.put_change.ensures.kept clean_last).was_open last_open)

pub returns-in_err-put_change-clause-was_open : goal.returns-in_err-put_change-clause-was_open
returns-in_err-put_change-clause-was_open g c clean now_open =
    let old = c.args.connection.now in
    let begun = c.transaction-tx.result.conn.now in
    let last = c.put_change.new.tx.conn.now in
    let end = c.drop-tx.new.self.0 in
    let same : end ≡ c.connection-1.given.0 = search rules in
    let late : HasCleanDisk (state g.S.Store end) = subst (λ h. HasCleanDisk (state g.S.Store h)) (sym same) clean in
    let clean_last : HasCleanDisk (state g.S.Store last) = omega (arith, late, c.drop-tx.ensures.survives.clean) in
    let end_open = subst (λ h. IsTrue (state g.S.Store h).is_open) (sym same) now_open in
    let last_open = (c.drop-tx.ensures.undone late).was_open end_open in
    subst (λ h. IsTrue (state g.S.Store h).is_open) c.transaction-tx.ensures.begun ((c.put_change.ensures.kept clean_last).was_open last_open)
