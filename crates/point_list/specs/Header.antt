-- The headers of a list, as tests.
use Rattle.std.specs.Prelude.{Bool, ◌&&◌, ◌||◌, ◌==◌, length, codes}
use Rattle.std.specs.Str.{bytes_eq}
use Rattle.point_list.specs.Columns.{Record, field}
use Rattle.point_list.specs.Edition.{Edition, First, Second}

-- the columns that each list has
abbrev pub begins_as_header : Record → Bool
begins_as_header r =
    bytes_eq (field r 0) (codes "name") && (bytes_eq (field r 1) (codes "device")
    && (bytes_eq (field r 2) (codes "table") && (bytes_eq (field r 3) (codes "address")
    && (bytes_eq (field r 4) (codes "type") && (bytes_eq (field r 5) (codes "length")
    && (bytes_eq (field r 6) (codes "scale") && (bytes_eq (field r 7) (codes "role") && bytes_eq (field r 8) (codes "roll"))))))))

-- those alone
abbrev pub is_plain_header : Record → Bool
is_plain_header r = length r == 9 && begins_as_header r

-- those and the column of orders
abbrev pub is_header_with_words : Record → Bool
is_header_with_words r = length r == 10 && (begins_as_header r && bytes_eq (field r 9) (codes "words"))

-- a header that an edition knows
abbrev pub is_header : Edition → Record → Bool
is_header First r = is_plain_header r
is_header Second r = is_plain_header r || is_header_with_words r
