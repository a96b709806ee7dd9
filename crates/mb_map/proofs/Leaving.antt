-- What has left of a simulator by the end of a rest: each reply, where the script drops none.
use Rattle.std.proofs.Common.{◌≡◌, ◌≢◌, ℕ, Bool, true, false, cond, not, eqb, List, [], ◌∷◌, ◌++◌, length, get_or, map, filter, All, refl, sym, ap, ◌∙◌, subst, arith, append_assoc, length-append, inl, inr}
use Rattle.std.specs.Prelude.{Contains, IsPermutation, IsTrue}
use Rattle.std.specs.List.{flat_map, list_all}
use Rattle.std.specs.Option.{option_to_list}
use Rattle.std.proofs.lemmas.Bool.{cases_lt}
use Rattle.std.proofs.Math.ListN.{get_or-append}
use Rattle.std.proofs.lemmas.List.{append-nil, get_or_default, get_or_past, map-append}
use Rattle.std.proofs.lemmas.List.Elements.{filter-append}
use Rattle.std.proofs.lemmas.List.Sorted.{Contains-permutation, IsPermutation-append_comm, IsPermutation-append_left, IsPermutation-append_right, IsPermutation-cons, IsPermutation-middle, IsPermutation-refl, IsPermutation-sym, IsPermutation-trans}
use Rattle.mb_mbap.specs.declared.frame.Frame.{Frame}
use Rattle.mb_map.specs.declared.held.Held.{Held}
use Rattle.mb_map.specs.declared.step.Step.{Step}
use Rattle.mb_map.specs.declared.step.Step.TheVariants.{Pass, Drop, Twice, Hold}
use Rattle.mb_map.specs.Queue.{closer, held_by, held_reply, is_due, is_later, is_sound}
use Rattle.mb_map.specs.Schedule.{AllLeave, Call, Devices, Outcome, Run, Sent, Simulated, StandsFor, gives_twice, is_twice, leaves, own, reply_of, rests_in, schedule, sent, sent_from, step_at, waiting, with_set}
use Rattle.mb_map.specs.Schedule.Call.{Take, Rest, Set}
use Rattle.mb_map.specs.Schedule.Outcome.{Replied, Rested, Changed}
use Rattle.mb_map.proofs.Differ.{sound_all}
use Rattle.mb_map.proofs.Standing.{leaves_replied, leaves_rested, newest, sent_changed, sent_more, sent_rested, sound_step, waiting_changed, waiting_replied, waiting_rested}

-- ---- lists in another order

interchange : {X : Type 0} → (a x b y : List X) → IsPermutation ((a ++ x) ++ (b ++ y)) ((a ++ b) ++ (x ++ y))
interchange a x b y =
    let mid : IsPermutation (x ++ (b ++ y)) (b ++ (x ++ y)) =
    subst (λ l. IsPermutation l (b ++ (x ++ y))) (append_assoc x b y) (subst (λ r. IsPermutation ((x ++ b) ++ y) r) (append_assoc b x y) (IsPermutation-append_left y (x ++ b) (b ++ x) (IsPermutation-append_comm x b))) in
    subst (λ l. IsPermutation l ((a ++ b) ++ (x ++ y))) (sym (append_assoc a x (b ++ y)))
    (subst (λ r. IsPermutation (a ++ (x ++ (b ++ y))) r) (sym (append_assoc a b (x ++ y))) (IsPermutation-append_right a (x ++ (b ++ y)) (b ++ (x ++ y)) mid))

-- what is in a, b is in gone and w, of which due leaves now; x and y are new, of which own leaves now
regrouped : {X : Type 0} → (a b gone w due later own held x y : List X) → IsPermutation (a ++ b) (gone ++ w) → IsPermutation w (due ++ later) → own ++ held ≡ x ++ y
    → IsPermutation ((a ++ x) ++ (b ++ y)) ((gone ++ (own ++ due)) ++ (later ++ held))
regrouped a b gone w due later own held x y old split new =
    let one = interchange a x b y in
    let two = IsPermutation-append_left (x ++ y) (a ++ b) (gone ++ w) old in
    let three = IsPermutation-append_left (x ++ y) (gone ++ w) (gone ++ (due ++ later)) (IsPermutation-append_right gone w (due ++ later) split) in
    let four : IsPermutation ((gone ++ (due ++ later)) ++ (x ++ y)) (((gone ++ due) ++ own) ++ (later ++ held)) =
    subst (λ l. IsPermutation ((gone ++ (due ++ later)) ++ l) (((gone ++ due) ++ own) ++ (later ++ held))) new
    (subst (λ l. IsPermutation (l ++ (own ++ held)) (((gone ++ due) ++ own) ++ (later ++ held))) (append_assoc gone due later) (interchange (gone ++ due) later own held)) in
    let five : IsPermutation ((gone ++ due) ++ own) (gone ++ (own ++ due)) =
    subst (λ l. IsPermutation l (gone ++ (own ++ due))) (sym (append_assoc gone due own)) (IsPermutation-append_right gone (due ++ own) (own ++ due) (IsPermutation-append_comm due own)) in
    let six = IsPermutation-append_left (later ++ held) ((gone ++ due) ++ own) (gone ++ (own ++ due)) five in
    IsPermutation-trans _ _ _ one (IsPermutation-trans _ _ _ two (IsPermutation-trans _ _ _ three (IsPermutation-trans _ _ _ four six)))

-- held replies are those that are due and those that are later
parted : (held : List Held) → IsPermutation (map held_reply held) (map held_reply (filter is_due held) ++ map held_reply (map closer (filter is_later held)))
parted [] = IsPermutation-refl []
parted (h ∷ held) = by (eqb h.left 1) (parted held)
  where
    by : (b : Bool) → IsPermutation (map held_reply held) (map held_reply (filter is_due held) ++ map held_reply (map closer (filter is_later held)))
        → IsPermutation (h.reply ∷ map held_reply held) (map held_reply (cond b (h ∷ filter is_due held) (filter is_due held)) ++ map held_reply (map closer (cond (not b) (h ∷ filter is_later held) (filter is_later held))))
    by true rest = IsPermutation-cons h.reply _ _ rest
    by false rest = IsPermutation-trans _ _ _ (IsPermutation-cons h.reply _ _ rest) (IsPermutation-sym _ _ (IsPermutation-middle (map held_reply (filter is_due held)) h.reply (map held_reply (map closer (filter is_later held)))))

-- ---- replies

-- a reply once, and once more where its step gives it twice
abbrev again : Step → Frame → List Frame
again step reply = cond (gives_twice step) (reply ∷ []) []

-- what leaves with its frame and what is held of it
own_and_held : (step : Step) (reply : Frame) → step ≢ Drop → own step reply ++ map held_reply (option_to_list (held_by step reply)) ≡ (reply ∷ []) ++ again step reply
own_and_held Pass reply kept = refl
own_and_held Drop reply kept = absurd (kept refl)
own_and_held Twice reply kept = refl
own_and_held (Hold frames) reply kept = refl

-- all replies that a script gives of these outcomes
abbrev once : List Step → List Outcome → List Frame
once script outcomes = map reply_of (sent script outcomes)

abbrev more : List Step → List Outcome → List Frame
more script outcomes = map reply_of (filter is_twice (sent script outcomes))

-- these have left or are held
abbrev Accounted : List Step → List Outcome → List Frame → Type 0
Accounted script outcomes gone = IsPermutation (once script outcomes ++ more script outcomes) (gone ++ map held_reply (waiting script outcomes))

once_more : (script : List Step) (outcomes : List Outcome) (reply : Frame) → once script (outcomes ++ Replied reply ∷ []) ≡ once script outcomes ++ reply ∷ []
once_more script outcomes reply = ap (map reply_of) (sent_more script outcomes reply) ∙ map-append reply_of (sent script outcomes) (newest script (length (sent script outcomes)) (rests_in outcomes) reply ∷ [])

more_more : (script : List Step) (outcomes : List Outcome) (reply : Frame)
    → more script (outcomes ++ Replied reply ∷ []) ≡ more script outcomes ++ again (step_at script (length (sent script outcomes))) reply
more_more script outcomes reply =
    let earlier : List Sent = sent script outcomes in
    let new : Sent = newest script (length earlier) (rests_in outcomes) reply in
    ap (λ (l : List Sent). map reply_of (filter is_twice l)) (sent_more script outcomes reply)
    ∙ ap (map reply_of) (filter-append is_twice earlier (new ∷ []))
    ∙ map-append reply_of (filter is_twice earlier) (filter is_twice (new ∷ []))
    ∙ ap (λ (l : List Frame). more script outcomes ++ l) (by (is_twice new))
  where
    by : (b : Bool) → map reply_of (cond b (newest script (length (sent script outcomes)) (rests_in outcomes) reply ∷ []) []) ≡ cond b (reply ∷ []) []
    by true = refl
    by false = refl

-- one call more
accounted : (script : List Step) → ((n : ℕ) → step_at script n ≢ Hold 0) → ((n : ℕ) → step_at script n ≢ Drop) → (outcomes : List Outcome) (outcome : Outcome) (gone : List Frame)
    → Accounted script outcomes gone → Accounted script (outcomes ++ outcome ∷ []) (gone ++ leaves script outcomes outcome)
accounted script sound kept outcomes (Replied reply) gone old =
    let n : ℕ = length (sent script outcomes) in
    let step : Step = step_at script n in
    let held : List Held = waiting script outcomes in
    let later : List Frame = map held_reply (map closer (filter is_later held)) in
    let new : List Held = option_to_list (held_by step reply) in
    let waits : map held_reply (waiting script (outcomes ++ Replied reply ∷ [])) ≡ later ++ map held_reply new =
    ap (map held_reply) (waiting_replied script outcomes reply (sound n)) ∙ map-append held_reply (map closer (filter is_later held)) new in
    rw (once_more script outcomes reply, more_more script outcomes reply, leaves_replied script outcomes reply, waits) (
    regrouped (once script outcomes) (more script outcomes) gone (map held_reply held) (map held_reply (filter is_due held)) later (own step reply) (map held_reply new) (reply ∷ []) (again step reply)
    old (parted held) (own_and_held step reply (kept n)))
accounted script sound kept outcomes Rested gone old =
    let all : sent script (outcomes ++ Rested ∷ []) ≡ sent script outcomes = sent_rested script 0 0 outcomes in
    rw (all, leaves_rested script outcomes, waiting_rested script outcomes) (rw (append-nil (gone ++ map held_reply (waiting script outcomes))) old)
accounted script sound kept outcomes Changed gone old =
    let all : sent script (outcomes ++ Changed ∷ []) ≡ sent script outcomes = sent_changed script 0 0 outcomes in
    let none : gone ++ leaves script outcomes Changed ≡ gone = unfold leaves in append-nil gone in
    rw (all, none, waiting_changed script outcomes) old

abbrev together : List (List Frame) → List Frame
together answers = flat_map (λ (given : List Frame). given) answers

-- many calls more
all_accounted : (script : List Step) → ((n : ℕ) → step_at script n ≢ Hold 0) → ((n : ℕ) → step_at script n ≢ Drop) → (before outcomes : List Outcome) (gone : List Frame)
    → Accounted script before gone → Accounted script (before ++ outcomes) (gone ++ together (schedule script before outcomes))
unfolding schedule
all_accounted script sound kept before [] gone old = rw (append-nil before, append-nil gone) old
all_accounted script sound kept before (o ∷ outcomes) gone old =
    let now : List Frame = leaves script before o in
    let rest : List Frame = together (schedule script (before ++ o ∷ []) outcomes) in
    let step = all_accounted script sound kept (before ++ o ∷ []) outcomes (gone ++ now) (accounted script sound kept before o gone old) in
    subst (λ (l : List Frame). Accounted script (before ++ o ∷ outcomes) l) (append_assoc gone now rest)
    (subst (λ (l : List Outcome). Accounted script l ((gone ++ now) ++ rest)) (append_assoc before (o ∷ []) outcomes) step)

nothing_yet : (script : List Step) → Accounted script [] []
unfolding sent_from waiting rests_in
nothing_yet script = IsPermutation-refl []

-- calls that end with a rest have outcomes that do
run_ends : (before : Devices) (calls : List Call) (outcomes : List Outcome) (after : Devices) → Run before (calls ++ Rest ∷ []) outcomes after → (front : List Outcome) × (outcomes ≡ front ++ Rested ∷ [])
run_ends before [] (Rested ∷ []) after run = ([], refl)
run_ends before [] (Rested ∷ o ∷ outcomes) after run = absurd run
run_ends before [] outcomes after run = absurd run
run_ends before (Take f ∷ calls) (Replied r ∷ outcomes) after run = let e = run_ends run.0 calls outcomes after run.2 in (Replied r ∷ e.0, ap (λ l. Replied r ∷ l) e.1)
run_ends before (Take f ∷ calls) outcomes after run = absurd run
run_ends before (Rest ∷ calls) (Rested ∷ outcomes) after run = let e = run_ends before calls outcomes after run in (Rested ∷ e.0, ap (λ l. Rested ∷ l) e.1)
run_ends before (Rest ∷ calls) outcomes after run = absurd run
run_ends before (Set u t a n ∷ calls) (Changed ∷ outcomes) after run =
    let e = run_ends (with_set u t a n before) calls outcomes after run in (Changed ∷ e.0, ap (λ l. Changed ∷ l) e.1)
run_ends before (Set u t a n ∷ calls) outcomes after run = absurd run

pass_kept : Pass ≢ Drop
pass_kept e = cc

kept_step : (script : List Step) (n : ℕ) → All (λ (s : Step). s ≢ Drop) script → step_at script n ≢ Drop
kept_step script n kept = elim (cases_lt n (length script)) [
  | inl lt ↦ kept n Pass lt
  | inr past ↦ λ e. pass_kept (sym (get_or_past script n Pass past) ∙ e)
]

each_in : (replies second left : List Frame) → IsPermutation (replies ++ second) left → All (λ (reply : Frame). Contains left reply) replies
each_in replies second left all k d lt =
    let reply : Frame = get_or replies k d in
    Contains-permutation (replies ++ second) left reply all
    (k, omega (arith, length-append replies second), get_or-append replies second reply k lt ∙ get_or_default replies k reply d lt)

pub all_left : (devices : Devices) (script : List Step) (calls : List Call) (answers : List (List Frame)) (sim : Simulated)
    → IsTrue (list_all is_sound script) → All (λ (s : Step). s ≢ Drop) script → (stood : StandsFor devices script (calls ++ Rest ∷ []) answers sim)
    → AllLeave (sent script stood.outcomes) (together answers)
all_left devices script calls answers sim sound kept stood =
    let outcomes : List Outcome = stood.outcomes in
    let hold = sound_all script sound in
    let end = run_ends devices calls outcomes sim.devices stood.run in
    let none : waiting script outcomes ≡ [] = ap (waiting script) end.1 ∙ waiting_rested script end.0 in
    let all : Accounted script outcomes (together (schedule script [] outcomes)) = all_accounted script (λ n. sound_step script n hold) (λ n. kept_step script n kept) [] outcomes [] (nothing_yet script) in
    let left : IsPermutation (once script outcomes ++ more script outcomes) (together answers) =
    rw (stood.answered) (rw (none, append-nil (together (schedule script [] outcomes))) at all) in
    record { each = each_in (once script outcomes) (more script outcomes) (together answers) left; as_often = left }
