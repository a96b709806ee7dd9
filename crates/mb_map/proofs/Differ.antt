-- Unit identifiers that differ.
use Rattle.std.proofs.Common.{◌≡◌, ◌≢◌, ℕ, zero, suc, ◌<◌, ◌||◌, Bool, true, false, not, eqb, List, [], ◌∷◌, length, get_or, All, ◌∙◌, refl, sym, ap, arith}
use Rattle.std.specs.List.{list_all, list_any}
use Rattle.std.proofs.lemmas.Bool.{and_parts, eqb-false, false≢true, not-true, true≢false}
use Rattle.mb_map.specs.declared.step.Step.{Step}
use Rattle.mb_map.specs.declared.step.Step.TheVariants.{Hold}
use Rattle.mb_map.specs.Queue.{HaveOwnIds, differ, is_sound}
use Rattle.mb_map.specs.Schedule.{Devices}
use Rattle.mb_map.specs.Tables.{Tables}

pub differ_none : (devices : Devices) → length devices ≡ 0 → differ devices ≡ true
differ_none [] e = refl
differ_none (d ∷ devices) e = absurd (omega arith)

pub differ_found : (devices : Devices) (first : ℕ × Tables) (rest : Devices) → devices ≡ first ∷ rest → list_any (λ (d : ℕ × Tables). eqb d.0 first.0) rest ≡ true → differ devices ≡ false
differ_found devices first rest e h = rw (e, h) refl

pub differ_more : (devices : Devices) (first : ℕ × Tables) (rest : Devices) → devices ≡ first ∷ rest → list_any (λ (d : ℕ × Tables). eqb d.0 first.0) rest ≡ false → differ devices ≡ differ rest
differ_more devices first rest e h = rw (e, h) refl

neither : (a b : Bool) → (a || b) ≡ false → (a ≡ false) × (b ≡ false)
neither true b e = absurd (true≢false e)
neither false b e = (refl, e)

no_other : (id : ℕ) (devices : Devices) (k : ℕ) (d : ℕ × Tables) → list_any (λ (x : ℕ × Tables). eqb x.0 id) devices ≡ false → k < length devices → (get_or devices k d).0 ≢ id
no_other id [] k d none lt = absurd (omega arith)
no_other id (e ∷ devices) zero d none lt = eqb-false e.0 id (neither (eqb e.0 id) (list_any (λ (x : ℕ × Tables). eqb x.0 id) devices) none).0
no_other id (e ∷ devices) (suc k) d none lt = no_other id devices k d (neither (eqb e.0 id) (list_any (λ (x : ℕ × Tables). eqb x.0 id) devices) none).1 (omega arith)

-- one more device in front of others
own_more : (e : ℕ × Tables) (devices : Devices) → list_any (λ (x : ℕ × Tables). eqb x.0 e.0) devices ≡ false → HaveOwnIds devices → HaveOwnIds (e ∷ devices)
own_more e devices none own zero zero d lt below = absurd (omega arith)
own_more e devices none own zero (suc j) d lt below = λ same. no_other e.0 devices j d none (omega arith) (sym same)
own_more e devices none own (suc i) zero d lt below = absurd (omega arith)
own_more e devices none own (suc i) (suc j) d lt below = own i j d (omega arith) (omega arith)

-- then each device is found by its own identifier
pub own_ids : (devices : Devices) → differ devices ≡ true → HaveOwnIds devices
own_ids [] h = λ i j d lt below. absurd (omega arith)
own_ids (e ∷ devices) h =
    let parts = and_parts (not (list_any (λ (x : ℕ × Tables). eqb x.0 e.0) devices)) (differ devices) h in
    own_more e devices (not-true _ parts.0) (own_ids devices parts.1)

sound_cons : (s : Step) (script : List Step) → s ≢ Hold 0 → All (λ (x : Step). x ≢ Hold 0) script → All (λ (x : Step). x ≢ Hold 0) (s ∷ script)
sound_cons s script here rest zero d lt = here
sound_cons s script here rest (suc k) d lt = rest k d (omega arith)

sound_one : (step : Step) → is_sound step ≡ true → step ≢ Hold 0
sound_one step h e = false≢true (sym (ap is_sound e) ∙ h)

-- and no step of a sound script holds for nothing
pub sound_all : (script : List Step) → list_all is_sound script ≡ true → All (λ (s : Step). s ≢ Hold 0) script
sound_all [] h = λ k d lt. absurd (omega arith)
sound_all (s ∷ script) h =
    let parts = and_parts (is_sound s) (list_all is_sound script) h in
    sound_cons s script (sound_one s parts.0) (sound_all script parts.1)
