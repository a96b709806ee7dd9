-- What the bytes of a connection mean, where these routes are offered.
use Rattle.std.specs.Prelude.{◌≡◌, ◌≢◌, ◌⊎◌, ℕ, List, [], ◌++◌, Some}
use Rattle.httparse.specs.Grammar.{RequestHead}
use Rattle.office_http.specs.declared.heard.Refusal.TheVariants.{BadRequest}
use Rattle.office_http.specs.declared.routes.Routes.{Routes}
use Rattle.office_http.specs.Head.{HasHead}
use Rattle.office_http.specs.Heads.{IsAsked}
use Rattle.office_http.specs.Meanings.{Meaning, nothing, refused}

-- the bytes have a whole head within the limits, and all that it asks for is there
pub record IsWhole (routes : Routes) (input : List ℕ) (meaning : Meaning) : Type 0 where
  pub head : RequestHead
  pub rest : List ℕ
  pub has : HasHead input head rest
  pub asked : IsAsked routes head rest (Some meaning)

-- no whole request is there
abbrev pub Lacks : Routes → List ℕ → Type 0
Lacks routes input = (meaning : Meaning) → IsWhole routes input meaning → ⊥

-- bytes that end too soon, or never become a request
abbrev pub EndsAs : List ℕ → Meaning → Type 0
EndsAs input meaning = ((input ≡ []) × (meaning ≡ nothing)) ⊎ ((input ≢ []) × (meaning ≡ refused BadRequest))

-- all the bytes of a connection mean that
abbrev pub Means : Routes → List ℕ → Meaning → Type 0
Means routes input meaning = IsWhole routes input meaning ⊎ (Lacks routes input × EndsAs input meaning)

-- whatever follows, the bytes mean that
abbrev pub Decides : Routes → List ℕ → Meaning → Type 0
Decides routes input meaning = (more : List ℕ) → Means routes (input ++ more) meaning
