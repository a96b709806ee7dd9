-- The body of a void: a JSON object with exactly the members point and slot.
use Rattle.std.specs.Prelude.{◌==◌, ℕ, nat_le, List, codes, if◌then◌else◌, Option, Some, None, option_and_then, option_map, String, string_bytes}
use Rattle.std.specs.declared.alloc.Global.{Global}
use Rattle.serde_json.specs.Data.{Data}
use Rattle.serde_json.specs.Find.{get, as_str, as_number, as_u64, as_object}
use Rattle.office_http.specs.Documents.{both, count_of, data_of}

-- a slot has 32 bits
abbrev pub slot_in : Option ℕ → Option ℕ
slot_in None = None
slot_in (Some number) = if nat_le number 4294967295 then Some number else None

-- the void that a value names, which has no other member: a point's name and a slot
abbrev pub void_of_data : Data → Option (List ℕ × ℕ)
void_of_data d =
    if count_of (as_object d) == 2 then both (option_and_then as_str (get (codes "point") d)) (slot_in (option_and_then as_u64 (option_and_then as_number (get (codes "slot") d))))
    else None

-- the void that a body names
abbrev pub void_of : List ℕ → Option (List ℕ × ℕ)
void_of body = option_and_then void_of_data (data_of body)

abbrev pub void_view : Option (String Global × ℕ) → Option (List ℕ × ℕ)
void_view o = option_map (λ p. (string_bytes p.0, p.1)) o
