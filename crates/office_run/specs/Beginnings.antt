-- How a run begins: with lines of which no connection stands, and with places where nobody is.
use Rattle.std.specs.Prelude.{◌≡◌, ⊤, ℕ, suc, List, [], ◌∷◌, map, take}
use Rattle.point_list.specs.declared.site.Line.{Line as SiteLine}
use Rattle.point_list.specs.declared.site.Site.{Site}
use Rattle.run_lines.specs.declared.line.Line.{Line}
use Rattle.run_lines.specs.Lines.{place_of, state_at, terms_of}
use Rattle.run_lines.specs.Wires.{Down, Terms}
use Rattle.run_callers.specs.declared.place.Place.{Place}
use Rattle.run_callers.specs.Callers.{at_of, session_at}
use Rattle.run_callers.specs.Sessions.{Free}

-- lines without a connection that began no round, numbered from a first one on
abbrev pub AreDown : ℕ → List Line → Type 0
AreDown first [] = ⊤
AreDown first (line ∷ lines) = (place_of line ≡ first) × (state_at line ≡ record { from = 0; wire = Down }) × AreDown (suc first) lines

abbrev pub all_terms : List Line → List Terms
all_terms = map terms_of

abbrev pub terms_in : SiteLine → Terms
terms_in line = record { name = line.name; most = line.outstanding }

-- what the site says of the lines that are polled
abbrev pub site_terms : Site → List Terms
site_terms site = map terms_in (take 64 site.lines)

-- places with nobody there, numbered from a first one on
abbrev pub AreEmpty : ℕ → List Place → Type 0
AreEmpty first [] = ⊤
AreEmpty first (place ∷ places) = (at_of place ≡ first) × (session_at place ≡ Free) × AreEmpty (suc first) places
