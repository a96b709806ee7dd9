-- What a target names.
use Rattle.std.specs.Prelude.{◌≡◌, ℕ, ◌==◌, not, true, List, ◌∷◌, ◌++◌, codes, Option, Some, None}
use Rattle.std.specs.List.{list_all}
use Rattle.office_http.specs.declared.heard.Page.{Page as Shown}
use Rattle.office_http.specs.declared.routes.Route.TheVariants.{Orders, Lists, Voids, Readings, Total, Report, Page, Device}
use Rattle.office_http.specs.declared.routes.Routes.{Routes}
use Rattle.office_http.specs.Routes.{route_of}

pub data Place : Type 0 where
  orders : (caller key : List ℕ) → Place
  lists : (caller key : List ℕ) → Place
  voids : (caller key : List ℕ) → Place
  readings : (point from to : List ℕ) → Place
  total : (point : List ℕ) → Place
  report : (point from to : List ℕ) → Place
  page : Shown → Place
  device : (place : List ℕ) → Place

-- no slash
abbrev pub IsPlain : List ℕ → Type 0
IsPlain part = list_all (λ b. not (b == 47)) part ≡ true

-- a part, a slash, and what stands behind it
abbrev pub spell : List ℕ → List ℕ → List ℕ
spell part more = part ++ 47 ∷ more

-- the target has the route of the place, of those that are offered, and spells its parts, none of which but the last may have a slash
abbrev pub IsPlace : Routes → List ℕ → Place → Type 0
IsPlace routes target (orders caller key) = (route_of routes target ≡ Some Orders) × (target ≡ codes "/callers/" ++ spell caller (codes "orders/" ++ key)) × IsPlain caller
IsPlace routes target (lists caller key) = (route_of routes target ≡ Some Lists) × (target ≡ codes "/callers/" ++ spell caller (codes "lists/" ++ key)) × IsPlain caller
IsPlace routes target (voids caller key) = (route_of routes target ≡ Some Voids) × (target ≡ codes "/callers/" ++ spell caller (codes "voids/" ++ key)) × IsPlain caller
IsPlace routes target (readings point from to) =
    (route_of routes target ≡ Some Readings) × (target ≡ codes "/points/" ++ spell point (codes "readings/" ++ spell from to)) × IsPlain point × IsPlain from
IsPlace routes target (total point) = (route_of routes target ≡ Some Total) × (target ≡ codes "/points/" ++ (point ++ codes "/total"))
IsPlace routes target (report point from to) =
    (route_of routes target ≡ Some Report) × (target ≡ codes "/points/" ++ spell point (codes "report/" ++ spell from to)) × IsPlain point × IsPlain from
IsPlace routes target (page shown) = route_of routes target ≡ Some (Page shown)
IsPlace routes target (device place) = (route_of routes target ≡ Some Device) × (target ≡ codes "/devices/" ++ place)

-- what was found in a target: this place, or that it names none
abbrev pub Names : Routes → List ℕ → Option Place → Type 0
Names routes target (Some place) = IsPlace routes target place
Names routes target None = (place : Place) → IsPlace routes target place → ⊥
