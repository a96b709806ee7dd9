-- A simulator's queue holds what the schedule says is held: at its start, after a frame and after a rest.
use Rattle.std.proofs.Common.{◌≡◌, ◌≢◌, All, inl, inr, ℕ, zero, suc, ◌+◌, ◌-◌, ◌<◌, ◌≤◌, true, false, eqb, leb, List, [], ◌∷◌, ◌++◌, length, drop, map, filter, refl, sym, ap, ◌∙◌, subst, arith, append_assoc, length-append, zero-add}
use Rattle.std.specs.Option.{option_to_list}
use Rattle.std.proofs.lemmas.Bool.{cases_lt, eq-eqb}
use Rattle.std.proofs.lemmas.Bool.Decides.{eqb_tells, nat_tests}
use Rattle.std.proofs.lemmas.Simd.{map-map}
use Rattle.std.proofs.lemmas.List.{append-nil, drop-drop, drop_all, get_or-drop, get_or_past, map-append}
use Rattle.std.proofs.lemmas.List.Elements.{filter-append}
use Rattle.mb_pdu.specs.declared.table.Table.{Table}
use Rattle.mb_mbap.specs.declared.frame.Frame.{Frame}
use Rattle.mb_map.specs.declared.held.Held.{Held}
use Rattle.mb_map.specs.declared.step.Step.{Step}
use Rattle.mb_map.specs.declared.step.Step.TheVariants.{Pass, Drop, Twice, Hold}
use Rattle.mb_map.specs.Queue.{PassesOn, closer, held_by, held_reply, is_due, is_later}
use Rattle.mb_map.specs.Schedule.{Call, Devices, Outcome, Run, Sent, Serves, Simulated, StandsFor, begun, due, due_with, held_at, is_waiting, leaves, own, rests_in, schedule, sent, sent_from, step_at, waiting, with_set}
use Rattle.mb_map.specs.Schedule.Call.{Take, Rest, Set}
use Rattle.mb_map.specs.Schedule.Outcome.{Replied, Rested, Changed}

pub stands_begun : (devices : Devices) (script : List Step) → StandsFor devices script [] [] (begun devices script)
unfolding schedule sent_from waiting rests_in
stands_begun devices script = record { outcomes = []; run = refl; answered = refl; unused = refl; held = refl }

run_taken : (before : Devices) (calls : List Call) (outcomes : List Outcome) (between : Devices) (frame reply : Frame) (after : Devices)
    → Run before calls outcomes between → Serves between frame reply after → Run before (calls ++ Take frame ∷ []) (outcomes ++ Replied reply ∷ []) after
run_taken before [] [] between frame reply after run served = (after, subst (λ (d : Devices). Serves d frame reply after) run served, refl)
run_taken before [] (o ∷ outcomes) between frame reply after run served = absurd run
run_taken before (Take f ∷ calls) (Replied r ∷ outcomes) between frame reply after run served =
    (run.0, run.1, run_taken run.0 calls outcomes between frame reply after run.2 served)
run_taken before (Take f ∷ calls) outcomes between frame reply after run served = absurd run
run_taken before (Rest ∷ calls) (Rested ∷ outcomes) between frame reply after run served = run_taken before calls outcomes between frame reply after run served
run_taken before (Rest ∷ calls) outcomes between frame reply after run served = absurd run
run_taken before (Set u t a n ∷ calls) (Changed ∷ outcomes) between frame reply after run served =
    run_taken (with_set u t a n before) calls outcomes between frame reply after run served
run_taken before (Set u t a n ∷ calls) outcomes between frame reply after run served = absurd run

run_rested : (before : Devices) (calls : List Call) (outcomes : List Outcome) (after : Devices)
    → Run before calls outcomes after → Run before (calls ++ Rest ∷ []) (outcomes ++ Rested ∷ []) after
run_rested before [] [] after run = run
run_rested before [] (o ∷ outcomes) after run = absurd run
run_rested before (Take f ∷ calls) (Replied r ∷ outcomes) after run = (run.0, run.1, run_rested run.0 calls outcomes after run.2)
run_rested before (Take f ∷ calls) outcomes after run = absurd run
run_rested before (Rest ∷ calls) (Rested ∷ outcomes) after run = run_rested before calls outcomes after run
run_rested before (Rest ∷ calls) outcomes after run = absurd run
run_rested before (Set u t a n ∷ calls) (Changed ∷ outcomes) after run = run_rested (with_set u t a n before) calls outcomes after run
run_rested before (Set u t a n ∷ calls) outcomes after run = absurd run

run_set : (before : Devices) (calls : List Call) (outcomes : List Outcome) (between : Devices) (unit_id : ℕ) (table : Table) (address number : ℕ)
    → Run before calls outcomes between → Run before (calls ++ Set unit_id table address number ∷ []) (outcomes ++ Changed ∷ []) (with_set unit_id table address number between)
run_set before [] [] between unit_id table address number run = ap (with_set unit_id table address number) run
run_set before [] (o ∷ outcomes) between unit_id table address number run = absurd run
run_set before (Take f ∷ calls) (Replied r ∷ outcomes) between unit_id table address number run =
    (run.0, run.1, run_set run.0 calls outcomes between unit_id table address number run.2)
run_set before (Take f ∷ calls) outcomes between unit_id table address number run = absurd run
run_set before (Rest ∷ calls) (Rested ∷ outcomes) between unit_id table address number run = run_set before calls outcomes between unit_id table address number run
run_set before (Rest ∷ calls) outcomes between unit_id table address number run = absurd run
run_set before (Set u t a n ∷ calls) (Changed ∷ outcomes) between unit_id table address number run =
    run_set (with_set u t a n before) calls outcomes between unit_id table address number run
run_set before (Set u t a n ∷ calls) outcomes between unit_id table address number run = absurd run

-- one more call, and what leaves with it
schedule_more : (script : List Step) (before outcomes : List Outcome) (last : Outcome)
    → schedule script before (outcomes ++ last ∷ []) ≡ schedule script before outcomes ++ leaves script (before ++ outcomes) last ∷ []
unfolding schedule
schedule_more script before [] last = rw (append-nil before) refl
schedule_more script before (o ∷ outcomes) last =
    ap (λ (rest : List (List Frame)). leaves script before o ∷ rest) (schedule_more script (before ++ o ∷ []) outcomes last
    ∙ ap (λ (b : List Outcome). schedule script (before ++ o ∷ []) outcomes ++ leaves script b last ∷ []) (append_assoc before (o ∷ []) outcomes))

rests_replied : (outcomes : List Outcome) (reply : Frame) → rests_in (outcomes ++ Replied reply ∷ []) ≡ rests_in outcomes
unfolding rests_in
rests_replied [] reply = refl
rests_replied (Replied r ∷ outcomes) reply = rests_replied outcomes reply
rests_replied (Rested ∷ outcomes) reply = ap (λ (n : ℕ). n + 1) (rests_replied outcomes reply)
rests_replied (Changed ∷ outcomes) reply = rests_replied outcomes reply

rests_rested : (outcomes : List Outcome) → rests_in (outcomes ++ Rested ∷ []) ≡ rests_in outcomes + 1
unfolding rests_in
rests_rested [] = refl
rests_rested (Replied r ∷ outcomes) = rests_rested outcomes
rests_rested (Rested ∷ outcomes) = ap (λ (n : ℕ). n + 1) (rests_rested outcomes)
rests_rested (Changed ∷ outcomes) = rests_rested outcomes

pub rests_changed : (outcomes : List Outcome) → rests_in (outcomes ++ Changed ∷ []) ≡ rests_in outcomes
unfolding rests_in
rests_changed [] = refl
rests_changed (Replied r ∷ outcomes) = rests_changed outcomes
rests_changed (Rested ∷ outcomes) = ap (λ (n : ℕ). n + 1) (rests_changed outcomes)
rests_changed (Changed ∷ outcomes) = rests_changed outcomes

-- the reply to the frame after these
abbrev pub newest : List Step → ℕ → ℕ → Frame → Sent
newest script number rests reply = record { number = number; step = step_at script number; rests = rests; reply = reply }

sent_replied : (script : List Step) (number rests : ℕ) (outcomes : List Outcome) (reply : Frame)
    → sent_from script number rests (outcomes ++ Replied reply ∷ [])
    ≡ sent_from script number rests outcomes ++ newest script (number + length (sent_from script number rests outcomes)) (rests + rests_in outcomes) reply ∷ []
unfolding sent_from rests_in
sent_replied script number rests [] reply =
    let a : number + 0 ≡ number = omega arith in
    let b : rests + 0 ≡ rests = omega arith in
    rw (a, b) refl
sent_replied script number rests (Replied r ∷ outcomes) reply =
    let more : List Sent = sent_from script (number + 1) rests outcomes in
    let place : number + 1 + length more ≡ number + suc (length more) = omega arith in
    ap (λ (s : List Sent). newest script number rests r ∷ s) (sent_replied script (number + 1) rests outcomes reply
    ∙ ap (λ (n : ℕ). more ++ newest script n (rests + rests_in outcomes) reply ∷ []) place)
sent_replied script number rests (Rested ∷ outcomes) reply =
    let more : List Sent = sent_from script number (rests + 1) outcomes in
    let count : rests + 1 + rests_in outcomes ≡ rests + (rests_in outcomes + 1) = omega arith in
    sent_replied script number (rests + 1) outcomes reply
    ∙ ap (λ (n : ℕ). more ++ newest script (number + length more) n reply ∷ []) count
sent_replied script number rests (Changed ∷ outcomes) reply = sent_replied script number rests outcomes reply

pub sent_rested : (script : List Step) (number rests : ℕ) (outcomes : List Outcome) → sent_from script number rests (outcomes ++ Rested ∷ []) ≡ sent_from script number rests outcomes
unfolding sent_from
sent_rested script number rests [] = refl
sent_rested script number rests (Replied r ∷ outcomes) = ap (λ (s : List Sent). newest script number rests r ∷ s) (sent_rested script (number + 1) rests outcomes)
sent_rested script number rests (Rested ∷ outcomes) = sent_rested script number (rests + 1) outcomes
sent_rested script number rests (Changed ∷ outcomes) = sent_rested script number rests outcomes

pub sent_changed : (script : List Step) (number rests : ℕ) (outcomes : List Outcome) → sent_from script number rests (outcomes ++ Changed ∷ []) ≡ sent_from script number rests outcomes
unfolding sent_from
sent_changed script number rests [] = refl
sent_changed script number rests (Replied r ∷ outcomes) = ap (λ (s : List Sent). newest script number rests r ∷ s) (sent_changed script (number + 1) rests outcomes)
sent_changed script number rests (Rested ∷ outcomes) = sent_changed script number (rests + 1) outcomes
sent_changed script number rests (Changed ∷ outcomes) = sent_changed script number rests outcomes

-- all replies, with the reply to one frame more
pub sent_more : (script : List Step) (outcomes : List Outcome) (reply : Frame)
    → sent script (outcomes ++ Replied reply ∷ []) ≡ sent script outcomes ++ newest script (length (sent script outcomes)) (rests_in outcomes) reply ∷ []
sent_more script outcomes reply = sent_replied script 0 0 outcomes reply ∙ rw (zero-add (length (sent script outcomes)), zero-add (rests_in outcomes)) refl

-- ---- the queue

at_most : (n m : ℕ) → n ≤ m → leb n m ≡ true
at_most n m le = grind (arith, nat_tests)

over : (n m : ℕ) → m < n → leb n m ≡ false
over n m lt = grind (arith, nat_tests)

unequal : (n m : ℕ) → n ≢ m → eqb n m ≡ false
unequal n m apart = elim (eqb_tells n m) [ inl same ↦ absurd (apart same.1) | inr other ↦ other.0 ]

-- what leaves with frame n is what has one frame left
due_same : (n rests : ℕ) (earlier : List Sent) → map held_reply (filter is_due (held_at n rests earlier)) ≡ due_with n rests earlier
due_same n rests [] = refl
due_same n rests (s ∷ earlier) =
    let more : map held_reply (filter is_due (held_at n rests earlier)) ≡ due_with n rests earlier = due_same n rests earlier in
    elim (eqb_tells s.rests rests) [
      | inr other ↦ rw (other.0) more
      | inl same ↦ elim (cases_lt (due s) n) [
        | inl early ↦ rw (same.0, over n (due s) early, unequal (due s) n (λ e. absurd (omega arith))) more
        | inr le ↦ elim (cases_lt n (due s)) [
          | inl late ↦ rw (same.0, at_most n (due s) le, unequal (due s) n (λ e. absurd (omega arith)), unequal (due s + 1 - n) 1 (λ e. absurd (omega arith))) more
          | inr ge ↦
              let now : due s ≡ n = omega arith in
              let left : due s + 1 - n ≡ 1 = omega arith in
              rw (same.0, at_most n (due s) le, eq-eqb (due s) n now, left) (ap (λ (rest : List Frame). s.reply ∷ rest) more)
        ]
      ]
    ]

-- the others have one frame less
closer_same : (n rests : ℕ) (earlier : List Sent) → map closer (filter is_later (held_at n rests earlier)) ≡ held_at (n + 1) rests earlier
closer_same n rests [] = refl
closer_same n rests (s ∷ earlier) =
    let more : map closer (filter is_later (held_at n rests earlier)) ≡ held_at (n + 1) rests earlier = closer_same n rests earlier in
    elim (eqb_tells s.rests rests) [
      | inr other ↦ rw (other.0) more
      | inl same ↦ elim (cases_lt (due s) n) [
        | inl early ↦ rw (same.0, over n (due s) early, over (n + 1) (due s) (omega arith)) more
        | inr le ↦ elim (cases_lt n (due s)) [
          | inl late ↦
              let left : due s + 1 - n - 1 ≡ due s + 1 - (n + 1) = omega arith in
              rw (same.0, at_most n (due s) le, at_most (n + 1) (due s) (omega arith), unequal (due s + 1 - n) 1 (λ e. absurd (omega arith)), left)
              (ap (λ (rest : List Held). record { left = due s + 1 - (n + 1); reply = s.reply } ∷ rest) more)
          | inr ge ↦
              let left : due s + 1 - n ≡ 1 = omega arith in
              rw (same.0, at_most n (due s) le, over (n + 1) (due s) (omega arith), left) more
        ]
      ]
    ]

-- the newest reply is held as its step says
newest_held : (step : Step) (n rests : ℕ) (reply : Frame) → step ≢ Hold 0
    → held_at (n + 1) rests (record { number = n; step = step; rests = rests; reply = reply } ∷ []) ≡ option_to_list (held_by step reply)
newest_held Pass n rests reply sound = rw (eq-eqb rests rests refl, over (n + 1) (n + 0) (omega arith)) refl
newest_held Drop n rests reply sound = rw (eq-eqb rests rests refl, over (n + 1) (n + 0) (omega arith)) refl
newest_held Twice n rests reply sound = rw (eq-eqb rests rests refl, over (n + 1) (n + 0) (omega arith)) refl
newest_held (Hold zero) n rests reply sound = absurd (sound refl)
newest_held (Hold (suc k)) n rests reply sound =
    let left : n + suc k + 1 - (n + 1) ≡ suc k = omega arith in
    rw (eq-eqb rests rests refl, at_most (n + 1) (n + suc k) (omega arith), left) refl

-- a rest gives out all that is held
none_held : (script : List Step) (number rests : ℕ) (outcomes : List Outcome) (n later : ℕ) → rests + rests_in outcomes < later → held_at n later (sent_from script number rests outcomes) ≡ []
unfolding sent_from rests_in
none_held script number rests [] n later lt = refl
none_held script number rests (Replied r ∷ outcomes) n later lt = rw (unequal rests later (λ e. absurd (omega arith))) (none_held script (number + 1) rests outcomes n later lt)
none_held script number rests (Rested ∷ outcomes) n later lt = none_held script number (rests + 1) outcomes n later (omega arith)
none_held script number rests (Changed ∷ outcomes) n later lt = none_held script number rests outcomes n later lt

held_append : (n rests : ℕ) (earlier more : List Sent) → held_at n rests (earlier ++ more) ≡ held_at n rests earlier ++ held_at n rests more
held_append n rests earlier more = simp (filter-append (is_waiting n rests) earlier more, map-append)

-- what is held after one frame more
pub waiting_replied : (script : List Step) (outcomes : List Outcome) (reply : Frame) → step_at script (length (sent script outcomes)) ≢ Hold 0
    → waiting script (outcomes ++ Replied reply ∷ [])
    ≡ map closer (filter is_later (waiting script outcomes)) ++ option_to_list (held_by (step_at script (length (sent script outcomes))) reply)
unfolding waiting
waiting_replied script outcomes reply sound =
    let earlier : List Sent = sent script outcomes in
    let n : ℕ = length earlier in
    let rests : ℕ = rests_in outcomes in
    let all : sent script (outcomes ++ Replied reply ∷ []) ≡ earlier ++ newest script n rests reply ∷ [] = sent_more script outcomes reply in
    let count : length (sent script (outcomes ++ Replied reply ∷ [])) ≡ n + 1 = ap length all ∙ length-append earlier (newest script n rests reply ∷ []) in
    rw (count, rests_replied outcomes reply, all) (
    held_append (n + 1) rests earlier (newest script n rests reply ∷ [])
    ∙ (λ i. sym (closer_same n rests earlier) i ++ newest_held (step_at script n) n rests reply sound i))

-- nothing is held after a rest
pub waiting_rested : (script : List Step) (outcomes : List Outcome) → waiting script (outcomes ++ Rested ∷ []) ≡ []
unfolding waiting
waiting_rested script outcomes =
    let all : sent script (outcomes ++ Rested ∷ []) ≡ sent script outcomes = sent_rested script 0 0 outcomes in
    rw (all, rests_rested outcomes) (none_held script 0 0 outcomes (length (sent script outcomes)) (rests_in outcomes + 1) (omega arith))

pub waiting_changed : (script : List Step) (outcomes : List Outcome) → waiting script (outcomes ++ Changed ∷ []) ≡ waiting script outcomes
unfolding waiting
waiting_changed script outcomes =
    let all : sent script (outcomes ++ Changed ∷ []) ≡ sent script outcomes = sent_changed script 0 0 outcomes in
    rw (all, rests_changed outcomes) refl

-- what leaves with a frame, and with a rest
pub leaves_replied : (script : List Step) (outcomes : List Outcome) (reply : Frame)
    → leaves script outcomes (Replied reply) ≡ own (step_at script (length (sent script outcomes))) reply ++ map held_reply (filter is_due (waiting script outcomes))
unfolding waiting leaves
leaves_replied script outcomes reply =
    let earlier : List Sent = sent script outcomes in
    ap (λ (late : List Frame). own (step_at script (length earlier)) reply ++ late) (sym (due_same (length earlier) (rests_in outcomes) earlier))

pub leaves_rested : (script : List Step) (outcomes : List Outcome) → leaves script outcomes Rested ≡ map held_reply (waiting script outcomes)
unfolding waiting leaves
leaves_rested script outcomes =
    let n : ℕ = length (sent script outcomes) in
    sym (map-map held_reply (λ (s : Sent). record { left = due s + 1 - n; reply = s.reply }) (filter (is_waiting n (rests_in outcomes)) (sent script outcomes)))

-- a simulator after it took a frame, and what left with it
abbrev pub after_frame : Simulated → Frame → Devices → Simulated
after_frame before reply devices = record {
  devices = devices;
  script = drop 1 before.script;
  held = map closer (filter is_later before.held) ++ option_to_list (held_by (step_at before.script 0) reply);
}

abbrev pub given_with : Simulated → Frame → List Frame
given_with before reply = own (step_at before.script 0) reply ++ map held_reply (filter is_due before.held)

pub stands_taken : (devices : Devices) (script : List Step) (calls : List Call) (answers : List (List Frame)) (before : Simulated) (frame reply : Frame) (after : Devices)
    → StandsFor devices script calls answers before → Serves before.devices frame reply after → step_at before.script 0 ≢ Hold 0
    → StandsFor devices script (calls ++ Take frame ∷ []) (answers ++ given_with before reply ∷ []) (after_frame before reply after)
stands_taken devices script calls answers before frame reply after stood served sound =
    let outcomes : List Outcome = stood.outcomes in
    let earlier : List Sent = sent script outcomes in
    let n : ℕ = length earlier in
    let same : n + 0 ≡ n = omega arith in
    let step : step_at before.script 0 ≡ step_at script n = ap (λ (s : List Step). step_at s 0) stood.unused ∙ get_or-drop n script 0 Pass ∙ ap (λ (i : ℕ). step_at script i) same in
    let given : given_with before reply ≡ leaves script outcomes (Replied reply) = rw (step, stood.held) (sym (leaves_replied script outcomes reply)) in
    let newer : List Sent = newest script n (rests_in outcomes) reply ∷ [] in
    let count : length (sent script (outcomes ++ Replied reply ∷ [])) ≡ n + 1 = ap length (sent_more script outcomes reply) ∙ length-append earlier newer in
    record {
      outcomes = outcomes ++ Replied reply ∷ [];
      run = run_taken devices calls outcomes before.devices frame reply after stood.run served;
      answered = (λ i. stood.answered i ++ given i ∷ []) ∙ sym (schedule_more script [] outcomes (Replied reply));
      unused = rw (count, stood.unused) (drop-drop 1 n script);
      held = rw (step, stood.held) (sym (waiting_replied script outcomes reply (λ e. sound (step ∙ e))));
    }

pub stands_rested : (devices : Devices) (script : List Step) (calls : List Call) (answers : List (List Frame)) (before : Simulated)
    → StandsFor devices script calls answers before
    → StandsFor devices script (calls ++ Rest ∷ []) (answers ++ map held_reply before.held ∷ []) (record before { held = [] })
stands_rested devices script calls answers before stood =
    let outcomes : List Outcome = stood.outcomes in
    let all : sent script (outcomes ++ Rested ∷ []) ≡ sent script outcomes = sent_rested script 0 0 outcomes in
    let given : map held_reply before.held ≡ leaves script outcomes Rested = rw (stood.held) (sym (leaves_rested script outcomes)) in
    record {
      outcomes = outcomes ++ Rested ∷ [];
      run = run_rested devices calls outcomes before.devices stood.run;
      answered = (λ i. stood.answered i ++ given i ∷ []) ∙ sym (schedule_more script [] outcomes Rested);
      unused = rw all stood.unused;
      held = sym (waiting_rested script outcomes);
    }

-- a number that is set
pub stands_set : (devices : Devices) (script : List Step) (calls : List Call) (answers : List (List Frame)) (before : Simulated) (unit_id : ℕ) (table : Table) (address number : ℕ)
    → StandsFor devices script calls answers before
    → StandsFor devices script (calls ++ Set unit_id table address number ∷ []) (answers ++ [] ∷ []) (record before { devices = with_set unit_id table address number before.devices })
unfolding leaves
stands_set devices script calls answers before unit_id table address number stood =
    let outcomes : List Outcome = stood.outcomes in
    let all : sent script (outcomes ++ Changed ∷ []) ≡ sent script outcomes = sent_changed script 0 0 outcomes in
    record {
      outcomes = outcomes ++ Changed ∷ [];
      run = run_set devices calls outcomes before.devices unit_id table address number stood.run;
      answered = (λ i. stood.answered i ++ [] ∷ []) ∙ sym (schedule_more script [] outcomes Changed);
      unused = rw all stood.unused;
      held = stood.held ∙ sym (waiting_changed script outcomes);
    }

-- the same of what a simulator does with a frame
pub stands_passed : (devices : Devices) (script : List Step) (calls : List Call) (answers : List (List Frame)) (before after : Simulated) (frame : Frame) (given : List Frame)
    → StandsFor devices script calls answers before → step_at before.script 0 ≢ Hold 0
    → PassesOn before.devices (step_at before.script 0) before.held frame after.devices after.held given → after.script ≡ drop 1 before.script
    → StandsFor devices script (calls ++ Take frame ∷ []) (answers ++ given ∷ []) after
stands_passed devices script calls answers before after frame given stood sound passed unused =
    let reply : Frame = passed.0 in
    let end : Simulated = after_frame before reply after.devices in
    let same : after ≡ end = λ i. record { devices = after.devices; script = unused i; held = passed.3 i } in
    rw (same, passed.2) (stands_taken devices script calls answers before frame reply after.devices stood passed.1 sound)

-- the script after one more step
pub drop_next : (script : List Step) (used next : ℕ) → used ≤ length script → next ≤ length script → next ≤ used + 1 → (used < length script → next ≡ used + 1) → (used ≡ length script → next ≡ used)
    → drop next script ≡ drop 1 (drop used script)
drop_next script used next le le' most more none = elim (cases_lt used (length script)) [
  | inl lt ↦ rw (drop-drop 1 used script, more lt) refl
  | inr past ↦ rw (drop-drop 1 used script, drop_all next script (omega (arith, none (omega arith))), drop_all (used + 1) script (omega arith)) refl
]

pass_holds : (frames : ℕ) → Pass ≢ Hold frames
pass_holds frames e = cc

-- no step of a script holds for nothing, nor does pass
pub sound_step : (script : List Step) (n : ℕ) → All (λ (s : Step). s ≢ Hold 0) script → step_at script n ≢ Hold 0
sound_step script n sound = elim (cases_lt n (length script)) [
  | inl lt ↦ sound n Pass lt
  | inr past ↦ λ e. pass_holds 0 (sym (get_or_past script n Pass past) ∙ e)
]
