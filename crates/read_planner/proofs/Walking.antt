-- The walk over places in order: one read more.
use Rattle.std.proofs.Common.{◌≡◌, ◌∙◌, ◌≤◌, ◌<◌, ◌+◌, min, ℕ, List, [], ◌∷◌, ◌++◌, arith, refl, sym, subst, ◌⊎◌, inl, inr}
use Rattle.std.specs.Prelude.{All, Contains}
use Rattle.std.proofs.lemmas.Bool.Decides.{leb_tells}
use Rattle.std.proofs.lemmas.List.Elements.{All-contains, Contains-append_right, Contains-append_cases}
use Rattle.read_planner.specs.declared.Read.{Read}
use Rattle.read_planner.specs.declared.place.Place.{Place}
use Rattle.read_planner.specs.Read.{end_of, limit_of}
use Rattle.read_planner.specs.Allowed.{IsAllowed, AreAllowed, HoldsWhole, IsHeld}
use Rattle.read_planner.specs.Chosen.{IsUpTo, IsNext, AreChosen}
use Rattle.read_planner.specs.Walk.{IsPlace, bound_of, IsReached, IsBeyond, IsReadEnd}
use Rattle.read_planner.proofs.Members.{cons_cases, first_in, all_in, any_moved}
use Rattle.read_planner.proofs.Cutting.{few_of, valid_of, read_between}
use Rattle.read_planner.proofs.Reaching.{more_bridged}

-- this read doesn't get to the end of that place
abbrev pub EndsBefore : Place → Read → Type 0
EndsBefore first read = (read.function < first.function) ⊎ ((read.function ≡ first.function) × (end_of read < first.end))

-- no read gets to the end of the first place that is left
abbrev pub ArePast : List Read → List Place → Type 0
ArePast reads [] = Unit {0}
ArePast reads (first ∷ others) = All (EndsBefore first) reads

-- the reads so far, and the places that are left
pub record IsWalked (places : List Place) (gap : ℕ) (reads : List Read) (rest : List Place) : Type 0 where
  pub front : List Place
  pub split : places ≡ front ++ rest
  pub held : All (IsHeld reads) front
  pub past : ArePast reads rest
  pub allowed : AreAllowed places gap reads
  pub chosen : AreChosen places gap reads

-- the walk at a place that the reads so far leave
pub record IsAt (places : List Place) (gap : ℕ) (reads : List Read) (first : Place) (others : List Place) (end : ℕ) : Type 0 where
  pub front : List Place
  pub split : places ≡ front ++ first ∷ others
  pub held : All (IsHeld reads) front
  pub past : All (EndsBefore first) reads
  pub order : All (IsUpTo first) others
  pub each : All IsPlace places
  pub ends : IsReadEnd first others gap end

-- what is left is among the places
in_places : (places : List Place) (gap : ℕ) (reads : List Read) (first : Place) (others : List Place) (end : ℕ) → IsAt places gap reads first others end
    → (x : Place) → Contains (first ∷ others) x → Contains places x
in_places places gap reads first others end w x c =
    subst (λ (xs : List Place). Contains xs x) (sym w.split) (Contains-append_right w.front (first ∷ others) x c)

-- the first place that is left is a place
pub first_place : (places : List Place) (gap : ℕ) (reads : List Read) (first : Place) (others : List Place) (end : ℕ) → IsAt places gap reads first others end → IsPlace first
first_place places gap reads first others end w = All-contains IsPlace places first w.each (in_places places gap reads first others end w first (first_in first others))

-- what is held already ends sooner
held_ends : (first : Place) (reads : List Read) → All (EndsBefore first) reads → (x : Place) → IsHeld reads x → x.function ≡ first.function → x.end < first.end
held_ends first reads past x (k, read, lt, is, whole) function = elim (All-contains (EndsBefore first) reads read past (k, lt, is)) [
  | inl less ↦ absurd (omega (arith, less, whole.function))
  | inr (same, sooner) ↦ omega (arith, sooner, whole.end)
]

-- what a place of the same function is to the read: it ended sooner, it is reached, or it is out of reach
abbrev Stands : Place → ℕ → ℕ → ℕ → Place → Type 0
Stands first gap reach end x = (x.end < first.end) ⊎ ((IsReached first reach end x × (first.start ≤ x.start)) ⊎ ((bound_of first ≤ x.start) ⊎ (reach + gap < x.start)))

-- each place of the same function stands so
stands : (places : List Place) (gap : ℕ) (reads : List Read) (first : Place) (others : List Place) (end : ℕ) (w : IsAt places gap reads first others end)
    → (x : Place) → Contains places x → x.function ≡ first.function → Stands first gap w.ends.reach end x
stands places gap reads first others end w x c function =
    elim (Contains-append_cases w.front (first ∷ others) x (subst (λ (xs : List Place). Contains xs x) w.split c)) [
      | inl before ↦ inl (held_ends first reads w.past x (All-contains (IsHeld reads) w.front x w.held before) function)
      | inr here ↦ elim (cons_cases first others x here) [
        | inl same ↦ subst (Stands first gap w.ends.reach end) same
            (inr (inl (record { function = refl; reached = w.ends.reaches.first_end; in_time = λ soon. w.ends.reaches.first_in }, omega arith)))
        | inr later ↦ elim (All-contains (λ place. IsReached first w.ends.reach end place ⊎ IsBeyond first gap w.ends.reach place) others x w.ends.sorted later) [
          | inl reached ↦ inr (inl (reached, elim (All-contains (IsUpTo first) others x w.order later) [ inl less ↦ absurd (omega arith) | inr (same, up) ↦ up ]))
          | inr beyond ↦ elim beyond [ inl less ↦ absurd (omega arith) | inr far ↦ inr (inr far) ]
        ]
      ]
    ]

-- where the longest allowed read ends
abbrev far_of : Place → ℕ → ℕ → ℕ
far_of first gap reach = min (bound_of first) (reach + gap)

-- a read that goes so far is allowed
pub longest_allowed : (places : List Place) (gap : ℕ) (reads : List Read) (first : Place) (others : List Place) (end : ℕ) (w : IsAt places gap reads first others end)
    → (far : ℕ) → far ≤ far_of first gap w.ends.reach → first.start < far → IsAllowed places gap (read_between first.function first.start far)
longest_allowed places gap reads first others end w far le some =
    record {
      valid = valid_of (read_between first.function first.start far) (omega arith) (omega arith);
      inside = omega arith;
      bridged = λ address from below.
          more_bridged (first ∷ others) places gap first.function address (in_places places gap reads first others end w)
          (w.ends.reaches.bridged address from (omega arith));
    }

-- and no allowed read from there goes further
none_longer : (places : List Place) (gap : ℕ) (reads : List Read) (first : Place) (others : List Place) (end : ℕ) (w : IsAt places gap reads first others end)
    → (other : Read) → IsAllowed places gap other → other.function ≡ first.function → other.span.start ≡ first.start
    → end_of other ≤ far_of first gap w.ends.reach
none_longer places gap reads first others end w other allowed function start =
    elim (leb_tells (end_of other) (far_of first gap w.ends.reach)) [
      | inl (e, le) ↦ le
      | inr (e, more) ↦
          let is = first_place places gap reads first others end w in
          let few : other.span.quantity ≤ limit_of first.function = subst (λ n. other.span.quantity ≤ limit_of n) function (few_of other allowed.valid) in
          let inside = allowed.inside in
          let reached = w.ends.reaches.first_end in
          let some = is.some in
          let by_bound : end_of other ≤ bound_of first = omega arith in
          let past : w.ends.reach + gap < end_of other = omega arith in
          let (step, near, (k, x, lt, same, occupies)) = allowed.bridged w.ends.reach (omega arith) past in
          let from = occupies.from in
          let below = occupies.below in
          absurd (elim (stands places gap reads first others end w x (k, lt, same) (occupies.table ∙ function)) [
            | inl sooner ↦ omega arith
            | inr rest ↦ elim rest [
              | inl (seen, up) ↦ omega (arith, seen.reached)
              | inr out ↦ elim out [ inl late ↦ omega arith | inr far ↦ omega arith ]
            ]
          ])
    ]

-- the next read holds what the longest one does
pub next_read : (places : List Place) (gap : ℕ) (reads : List Read) (first : Place) (others : List Place) (end : ℕ) (w : IsAt places gap reads first others end)
    → (read : Read) → read.function ≡ first.function → read.span.start ≡ first.start → end_of read ≡ end → IsNext places gap reads read
next_read places gap reads first others end w read function start ends =
    let r = w.ends.reaches in
    let is = first_place places gap reads first others end w in
    let far = far_of first gap w.ends.reach in
    let long = read_between first.function first.start far in
    let first_some = is.some in
    let first_fits = is.fits in
    let first_inside = is.inside in
    let first_reached = r.first_end in
    let some : first.start < far = omega arith in
    let all = in_places places gap reads first others end w in
    record {
      first = first;
      begins = record {
        among = all first (first_in first others);
        left = λ held. absurd (omega (arith, held_ends first reads w.past first held refl));
        least = λ other c left. elim (Contains-append_cases w.front (first ∷ others) other (subst (λ (xs : List Place). Contains xs other) w.split c)) [
          | inl before ↦ absurd (left (All-contains (IsHeld reads) w.front other w.held before))
          | inr here ↦ elim (cons_cases first others other here) [
            | inl same ↦ subst (IsUpTo first) same (inr (refl, omega arith))
            | inr later ↦ All-contains (IsUpTo first) others other w.order later
          ]
        ];
      };
      longest = long;
      is_longest = record {
        allowed = longest_allowed places gap reads first others end w far (omega arith) some;
        greatest = λ other allowed same from. omega (arith, none_longer places gap reads first others end w other allowed same from);
      };
      function = (function, refl);
      start = (start, refl);
      ends = record {
        some = any_moved (λ (x : Place). (x.function ≡ first.function) × (x.end ≡ end)) (λ (x : Place). HoldsWhole long x × (x.end ≡ end_of read)) (first ∷ others) places
            (λ x c (table, last). (
              all x c,
              (
                record {
                  function = sym table;
                  start = elim (cons_cases first others x c) [
                    | inl same ↦ subst (λ (y : Place). first.start ≤ y.start) same (omega arith)
                    | inr later ↦ elim (All-contains (IsUpTo first) others x w.order later) [ inl less ↦ absurd (omega arith) | inr (same, up) ↦ up ]
                  ];
                  end = omega (arith, last, r.fits, r.within);
                },
                last ∙ sym ends,
              ),
            )) r.last;
        greatest = all_in (λ (x : Place). HoldsWhole long x → x.end ≤ end_of read) places (λ x c whole.
            let lies = whole.end in
            let each = All-contains IsPlace places x w.each c in
            let each_some = each.some in
            let ended = r.first_in in
            elim (stands places gap reads first others end w x c (sym whole.function)) [
              | inl sooner ↦ omega (arith, ends)
              | inr rest ↦ elim rest [
                | inl (seen, up) ↦ omega (arith, ends, seen.in_time (omega arith))
                | inr out ↦ elim out [ inl late ↦ absurd (omega arith) | inr far ↦ absurd (omega arith) ]
              ]
            ]);
      };
    }
