-- One more device among those whose names are known.
use Rattle.std.proofs.Common.{◌≡◌, ◌<◌, ◌+◌, ◌&&◌, ◌||◌, ℕ, List, [], ◌∷◌, ◌++◌, Bool, true, false, take, length, get_or, refl}
use Rattle.std.proofs.lemmas.List.{take_more}
use Rattle.std.specs.Prelude.{Result, Ok, Err, OnOk}
use Rattle.std.specs.Result.{is_ok}
use Rattle.std.specs.List.{list_any}
use Rattle.std.specs.Str.{bytes_eq}
use Rattle.point_list.specs.declared.site.Device.{Device}

any-push : (text : List ℕ) (ds : List Device) (d : Device) → list_any (λ (x : Device). bytes_eq text x.name) (ds ++ d ∷ []) ≡ (bytes_eq text d.name || list_any (λ (x : Device). bytes_eq text x.name) ds)
any-push text [] d = refl
any-push text (e ∷ es) d = rw (any-push text es d) (middle (bytes_eq text e.name) (bytes_eq text d.name) (list_any (λ (x : Device). bytes_eq text x.name) es))
  where
    middle : (a b c : Bool) → (a || (b || c)) ≡ (b || (a || c))
    middle true true c = refl
    middle true false c = refl
    middle false true c = refl
    middle false false c = refl

pub any-more : (text : List ℕ) (ds : List Device) (i : ℕ) (d : Device) → i < length ds → d ≡ get_or ds i d
    → list_any (λ (x : Device). bytes_eq text x.name) (take (i + 1) ds) ≡ (bytes_eq text d.name || list_any (λ (x : Device). bytes_eq text x.name) (take i ds))
any-more text ds i d lt e = rw (take_more ds i d lt, ← e) (any-push text (take i ds) d)

-- what goes with one of two goes with each
pub shared : (a b c : Bool) → ((a && b) || (a && c)) ≡ (a && (b || c))
shared true b c = refl
shared false b c = refl

-- what holds where a call succeeded
pub on_ok : {A E P : Type 0} (r : Result A E) → is_ok r ≡ true → OnOk r P → P
on_ok (Ok x) h p = p
on_ok (Err e) h p = absurd (cc)
