-- Names are labels.
use Rattle.std.proofs.Common.{◌≡◌, ℕ, true, List, [], ◌∷◌, refl, arith}
use Rattle.std.proofs.lemmas.Bool.{and_parts, and_from}
use Rattle.std.proofs.lemmas.Bool.Decides.{nat_tests}
use Rattle.std.specs.List.{list_all}
use Rattle.std.specs.Char.{is_ascii}
use Rattle.point_list.specs.Label.{is_label}
use Rattle.point_list.specs.Name.{is_name, is_name_byte}

name_byte_ascii : (b : ℕ) → is_name_byte b ≡ true → is_ascii b ≡ true
name_byte_ascii b h = grind (arith, nat_tests)

name_bytes_ascii : (text : List ℕ) → list_all is_name_byte text ≡ true → list_all is_ascii text ≡ true
name_bytes_ascii [] h = refl
name_bytes_ascii (b ∷ bs) h =
    let (here, more) = and_parts (is_name_byte b) (list_all is_name_byte bs) h in
    and_from (is_ascii b) (list_all is_ascii bs) (name_byte_ascii b here) (name_bytes_ascii bs more)

pub name_is_label : (text : List ℕ) → is_name text ≡ true → is_label text ≡ true
name_is_label text h =
    let outer = and_parts _ _ h in
    let inner = and_parts _ _ outer.1 in
    and_from _ _ outer.0 (and_from _ _ inner.0 (name_bytes_ascii text inner.1))
