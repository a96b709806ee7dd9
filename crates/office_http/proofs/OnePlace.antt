-- A target names one place.
use Rattle.std.proofs.Common.{◌≡◌, ℕ, List, ◌++◌, refl, sym, ap, ◌∙◌, arith, Option, Some, None, codes}
use Rattle.std.proofs.lemmas.List.{append_cancel_left, append_cancel_right}
use Rattle.office_http.specs.declared.heard.Page.{Page as Shown}
use Rattle.office_http.specs.declared.heard.Page.TheVariants.{Points}
use Rattle.office_http.specs.declared.routes.Route.{Route}
use Rattle.office_http.specs.declared.routes.Route.TheVariants.{Orders, Lists, Voids, Readings, Total, Report, Page, Device}
use Rattle.office_http.specs.declared.routes.Routes.{Routes}
use Rattle.office_http.specs.Places.{Place, orders, lists, voids, readings, report, total, page, device, IsPlain, IsPlace, Names, spell}
use Rattle.office_http.proofs.Slashes.{same_parts}

-- a route as a number
abbrev number : Option Route → ℕ
number None = 0
number (Some Orders) = 1
number (Some Lists) = 2
number (Some Readings) = 3
number (Some Total) = 4
number (Some Voids) = 5
number (Some Report) = 6
number (Some (Page shown)) = 7
number (Some Device) = 8

-- the page of a route
abbrev shown_by : Option Route → Shown
shown_by (Some (Page shown)) = shown
shown_by _ = Points

-- a front before a part, a slash and a second front
after : (front second a b c d t : List ℕ) → t ≡ front ++ spell a (second ++ b) → t ≡ front ++ spell c (second ++ d) → IsPlain a → IsPlain c → (a ≡ c) × (b ≡ d)
after front second a b c d t e f plain_a plain_c =
    let rest = append_cancel_left front (spell a (second ++ b)) (spell c (second ++ d)) (sym e ∙ f) in
    let both = same_parts a (second ++ b) c (second ++ d) rest plain_a plain_c in
    (both.0, append_cancel_left second b d both.1)

place_once : (routes : Routes) (t : List ℕ) (p q : Place) → IsPlace routes t p → IsPlace routes t q → p ≡ q
place_once routes t (orders a b) (orders c d) x y =
    let both = after (codes "/callers/") (codes "orders/") a b c d t x.1 y.1 x.2 y.2 in
    ap (λ u. orders u b) both.0 ∙ ap (orders c) both.1
place_once routes t (lists a b) (lists c d) x y =
    let both = after (codes "/callers/") (codes "lists/") a b c d t x.1 y.1 x.2 y.2 in
    ap (λ u. lists u b) both.0 ∙ ap (lists c) both.1
place_once routes t (voids a b) (voids c d) x y =
    let both = after (codes "/callers/") (codes "voids/") a b c d t x.1 y.1 x.2 y.2 in
    ap (λ u. voids u b) both.0 ∙ ap (voids c) both.1
place_once routes t (readings a b c) (readings d e f) x y =
    let both = after (codes "/points/") (codes "readings/") a (spell b c) d (spell e f) t x.1 y.1 x.2 y.2 in
    let slots = same_parts b c e f both.1 x.3 y.3 in
    ap (λ u. readings u b c) both.0 ∙ ap (λ u. readings d u c) slots.0 ∙ ap (readings d e) slots.1
place_once routes t (report a b c) (report d e f) x y =
    let both = after (codes "/points/") (codes "report/") a (spell b c) d (spell e f) t x.1 y.1 x.2 y.2 in
    let slots = same_parts b c e f both.1 x.3 y.3 in
    ap (λ u. report u b c) both.0 ∙ ap (λ u. report d u c) slots.0 ∙ ap (report d e) slots.1
place_once routes t (total a) (total b) x y =
    ap total (append_cancel_right a b (codes "/total") (append_cancel_left (codes "/points/") (a ++ codes "/total") (b ++ codes "/total") (sym x.1 ∙ y.1)))
place_once routes t (page a) (page b) x y = ap page (ap shown_by (sym x ∙ y))
place_once routes t (device a) (device b) x y = ap device (append_cancel_left (codes "/devices/") a b (sym x.1 ∙ y.1))
place_once routes t (orders a b) (lists c d) x y = let is : 1 ≡ 2 = ap number (sym x.0 ∙ y.0) in absurd (omega (arith, is))
place_once routes t (orders a b) (voids c d) x y = let is : 1 ≡ 5 = ap number (sym x.0 ∙ y.0) in absurd (omega (arith, is))
place_once routes t (orders a b) (readings c d e) x y = let is : 1 ≡ 3 = ap number (sym x.0 ∙ y.0) in absurd (omega (arith, is))
place_once routes t (orders a b) (total c) x y = let is : 1 ≡ 4 = ap number (sym x.0 ∙ y.0) in absurd (omega (arith, is))
place_once routes t (orders a b) (report c d e) x y = let is : 1 ≡ 6 = ap number (sym x.0 ∙ y.0) in absurd (omega (arith, is))
place_once routes t (lists a b) (orders c d) x y = let is : 2 ≡ 1 = ap number (sym x.0 ∙ y.0) in absurd (omega (arith, is))
place_once routes t (lists a b) (voids c d) x y = let is : 2 ≡ 5 = ap number (sym x.0 ∙ y.0) in absurd (omega (arith, is))
place_once routes t (lists a b) (readings c d e) x y = let is : 2 ≡ 3 = ap number (sym x.0 ∙ y.0) in absurd (omega (arith, is))
place_once routes t (lists a b) (total c) x y = let is : 2 ≡ 4 = ap number (sym x.0 ∙ y.0) in absurd (omega (arith, is))
place_once routes t (lists a b) (report c d e) x y = let is : 2 ≡ 6 = ap number (sym x.0 ∙ y.0) in absurd (omega (arith, is))
place_once routes t (voids a b) (orders c d) x y = let is : 5 ≡ 1 = ap number (sym x.0 ∙ y.0) in absurd (omega (arith, is))
place_once routes t (voids a b) (lists c d) x y = let is : 5 ≡ 2 = ap number (sym x.0 ∙ y.0) in absurd (omega (arith, is))
place_once routes t (voids a b) (readings c d e) x y = let is : 5 ≡ 3 = ap number (sym x.0 ∙ y.0) in absurd (omega (arith, is))
place_once routes t (voids a b) (total c) x y = let is : 5 ≡ 4 = ap number (sym x.0 ∙ y.0) in absurd (omega (arith, is))
place_once routes t (voids a b) (report c d e) x y = let is : 5 ≡ 6 = ap number (sym x.0 ∙ y.0) in absurd (omega (arith, is))
place_once routes t (readings a b c) (orders d e) x y = let is : 3 ≡ 1 = ap number (sym x.0 ∙ y.0) in absurd (omega (arith, is))
place_once routes t (readings a b c) (lists d e) x y = let is : 3 ≡ 2 = ap number (sym x.0 ∙ y.0) in absurd (omega (arith, is))
place_once routes t (readings a b c) (voids d e) x y = let is : 3 ≡ 5 = ap number (sym x.0 ∙ y.0) in absurd (omega (arith, is))
place_once routes t (readings a b c) (total d) x y = let is : 3 ≡ 4 = ap number (sym x.0 ∙ y.0) in absurd (omega (arith, is))
place_once routes t (readings a b c) (report d e f) x y = let is : 3 ≡ 6 = ap number (sym x.0 ∙ y.0) in absurd (omega (arith, is))
place_once routes t (total a) (orders b c) x y = let is : 4 ≡ 1 = ap number (sym x.0 ∙ y.0) in absurd (omega (arith, is))
place_once routes t (total a) (lists b c) x y = let is : 4 ≡ 2 = ap number (sym x.0 ∙ y.0) in absurd (omega (arith, is))
place_once routes t (total a) (voids b c) x y = let is : 4 ≡ 5 = ap number (sym x.0 ∙ y.0) in absurd (omega (arith, is))
place_once routes t (total a) (readings b c d) x y = let is : 4 ≡ 3 = ap number (sym x.0 ∙ y.0) in absurd (omega (arith, is))
place_once routes t (total a) (report b c d) x y = let is : 4 ≡ 6 = ap number (sym x.0 ∙ y.0) in absurd (omega (arith, is))
place_once routes t (report a b c) (orders d e) x y = let is : 6 ≡ 1 = ap number (sym x.0 ∙ y.0) in absurd (omega (arith, is))
place_once routes t (report a b c) (lists d e) x y = let is : 6 ≡ 2 = ap number (sym x.0 ∙ y.0) in absurd (omega (arith, is))
place_once routes t (report a b c) (voids d e) x y = let is : 6 ≡ 5 = ap number (sym x.0 ∙ y.0) in absurd (omega (arith, is))
place_once routes t (report a b c) (readings d e f) x y = let is : 6 ≡ 3 = ap number (sym x.0 ∙ y.0) in absurd (omega (arith, is))
place_once routes t (report a b c) (total d) x y = let is : 6 ≡ 4 = ap number (sym x.0 ∙ y.0) in absurd (omega (arith, is))
place_once routes t (orders a b) (page c) x y = let is : 1 ≡ 7 = ap number (sym x.0 ∙ y) in absurd (omega (arith, is))
place_once routes t (orders a b) (device c) x y = let is : 1 ≡ 8 = ap number (sym x.0 ∙ y.0) in absurd (omega (arith, is))
place_once routes t (lists a b) (page c) x y = let is : 2 ≡ 7 = ap number (sym x.0 ∙ y) in absurd (omega (arith, is))
place_once routes t (lists a b) (device c) x y = let is : 2 ≡ 8 = ap number (sym x.0 ∙ y.0) in absurd (omega (arith, is))
place_once routes t (voids a b) (page c) x y = let is : 5 ≡ 7 = ap number (sym x.0 ∙ y) in absurd (omega (arith, is))
place_once routes t (voids a b) (device c) x y = let is : 5 ≡ 8 = ap number (sym x.0 ∙ y.0) in absurd (omega (arith, is))
place_once routes t (readings a b c) (page d) x y = let is : 3 ≡ 7 = ap number (sym x.0 ∙ y) in absurd (omega (arith, is))
place_once routes t (readings a b c) (device d) x y = let is : 3 ≡ 8 = ap number (sym x.0 ∙ y.0) in absurd (omega (arith, is))
place_once routes t (total a) (page b) x y = let is : 4 ≡ 7 = ap number (sym x.0 ∙ y) in absurd (omega (arith, is))
place_once routes t (total a) (device b) x y = let is : 4 ≡ 8 = ap number (sym x.0 ∙ y.0) in absurd (omega (arith, is))
place_once routes t (report a b c) (page d) x y = let is : 6 ≡ 7 = ap number (sym x.0 ∙ y) in absurd (omega (arith, is))
place_once routes t (report a b c) (device d) x y = let is : 6 ≡ 8 = ap number (sym x.0 ∙ y.0) in absurd (omega (arith, is))
place_once routes t (page a) (orders b c) x y = let is : 7 ≡ 1 = ap number (sym x ∙ y.0) in absurd (omega (arith, is))
place_once routes t (page a) (lists b c) x y = let is : 7 ≡ 2 = ap number (sym x ∙ y.0) in absurd (omega (arith, is))
place_once routes t (page a) (voids b c) x y = let is : 7 ≡ 5 = ap number (sym x ∙ y.0) in absurd (omega (arith, is))
place_once routes t (page a) (readings b c d) x y = let is : 7 ≡ 3 = ap number (sym x ∙ y.0) in absurd (omega (arith, is))
place_once routes t (page a) (total b) x y = let is : 7 ≡ 4 = ap number (sym x ∙ y.0) in absurd (omega (arith, is))
place_once routes t (page a) (report b c d) x y = let is : 7 ≡ 6 = ap number (sym x ∙ y.0) in absurd (omega (arith, is))
place_once routes t (page a) (device b) x y = let is : 7 ≡ 8 = ap number (sym x ∙ y.0) in absurd (omega (arith, is))
place_once routes t (device a) (orders b c) x y = let is : 8 ≡ 1 = ap number (sym x.0 ∙ y.0) in absurd (omega (arith, is))
place_once routes t (device a) (lists b c) x y = let is : 8 ≡ 2 = ap number (sym x.0 ∙ y.0) in absurd (omega (arith, is))
place_once routes t (device a) (voids b c) x y = let is : 8 ≡ 5 = ap number (sym x.0 ∙ y.0) in absurd (omega (arith, is))
place_once routes t (device a) (readings b c d) x y = let is : 8 ≡ 3 = ap number (sym x.0 ∙ y.0) in absurd (omega (arith, is))
place_once routes t (device a) (total b) x y = let is : 8 ≡ 4 = ap number (sym x.0 ∙ y.0) in absurd (omega (arith, is))
place_once routes t (device a) (report b c d) x y = let is : 8 ≡ 6 = ap number (sym x.0 ∙ y.0) in absurd (omega (arith, is))
place_once routes t (device a) (page b) x y = let is : 8 ≡ 7 = ap number (sym x.0 ∙ y) in absurd (omega (arith, is))

-- what a target names is told in one way
pub names_once : (routes : Routes) (t : List ℕ) (p q : Option Place) → Names routes t p → Names routes t q → p ≡ q
names_once routes t None None a b = refl
names_once routes t None (Some q) a b = absurd (a q b)
names_once routes t (Some p) None a b = absurd (b p a)
names_once routes t (Some p) (Some q) a b = ap Some (place_once routes t p q a b)

-- a target with another second part than this one
pub no_parts : (target front second first more : List ℕ) → target ≡ front ++ spell first more → IsPlain first → ((rest : List ℕ) → more ≡ second ++ rest → ⊥)
    → (a b : List ℕ) → target ≡ front ++ spell a (second ++ b) → IsPlain a → ⊥
no_parts target front second first more e plain none a b f plain_a =
    let rest = append_cancel_left front (spell first more) (spell a (second ++ b)) (sym e ∙ f) in
    none b (same_parts first more a (second ++ b) rest plain plain_a).1

-- a target without a slash behind the front
pub no_slash : (target front more : List ℕ) → target ≡ front ++ more → ((a b : List ℕ) → more ≡ spell a b → ⊥) → (second a b : List ℕ) → target ≡ front ++ spell a (second ++ b) → ⊥
no_slash target front more e none second a b f = none a (second ++ b) (append_cancel_left front more (spell a (second ++ b)) (sym e ∙ f))

-- a target with another back
pub no_back : (target front more back : List ℕ) → target ≡ front ++ more → ((a : List ℕ) → more ≡ a ++ back → ⊥) → (a : List ℕ) → target ≡ front ++ (a ++ back) → ⊥
no_back target front more back e none a f = none a (append_cancel_left front more (a ++ back) (sym e ∙ f))

-- a target without a slash behind the second front
pub no_slots : (target front second first more : List ℕ) → target ≡ front ++ spell first (second ++ more) → IsPlain first → ((a b : List ℕ) → more ≡ spell a b → ⊥)
    → (a b c : List ℕ) → target ≡ front ++ spell a (second ++ spell b c) → IsPlain a → ⊥
no_slots target front second first more e plain none a b c f plain_a = none b c (after front second first more a (spell b c) target e f plain plain_a).1
