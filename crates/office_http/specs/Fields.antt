-- The fields of a head, by their names without case (RFC 9110, section 5.1), and the length of a body
-- (RFC 9112, section 6.2).
use Rattle.std.specs.Prelude.{ℕ, Bool, ◌==◌, ◌||◌, nat_lt, nat_eq, List, map, count_by, find, codes, Option, Some, None, if◌then◌else◌}
use Rattle.std.specs.Char.{to_ascii_lowercase}
use Rattle.std.specs.Cmp.Lexicographic.{pointwise}
use Rattle.sunspec.specs.Digits.{number_of}
use Rattle.office_http.specs.declared.fields.Length.{Length}
use Rattle.office_http.specs.declared.fields.Length.TheVariants.{Missing, Bad, TooLarge, Of}

-- a name and a value
abbrev pub FieldText : Type 0
FieldText = List ℕ × List ℕ

-- the field has this name, in either case
abbrev pub is_named : List ℕ → FieldText → Bool
is_named name f = pointwise nat_eq (map to_ascii_lowercase f.0) (map to_ascii_lowercase name)

-- how many fields have this name
abbrev pub named_count : List ℕ → List FieldText → ℕ
named_count name fields = count_by (is_named name) fields

abbrev pub body_limit : ℕ
body_limit = 262144

-- the length that a field's value gives: 1 to 10 digits
abbrev pub length_within : Option ℕ → Length
length_within None = Bad
length_within (Some n) = if nat_lt body_limit n then TooLarge else Of n

abbrev pub length_in : Option FieldText → Length
length_in None = Missing
length_in (Some field) = length_within (number_of 10 9999999999 field.1)

-- the length of the body that the fields give
abbrev pub length_of : List FieldText → Length
length_of fields =
    if nat_lt 0 (named_count (codes "transfer-encoding") fields) || (named_count (codes "content-length") fields == 0) then Missing
    else if nat_lt 1 (named_count (codes "content-length") fields) then Bad
    else length_in (find (is_named (codes "content-length")) fields)

-- how many bytes a body of this length has
abbrev pub count_in : Length → ℕ
count_in (Of n) = n
count_in _ = 0
