-- The body of an order: a JSON object with exactly the members point and value.
use Rattle.std.specs.Prelude.{◌==◌, ℕ, ℤ, List, codes, if◌then◌else◌, Option, None, option_and_then, option_map, String, string_bytes}
use Rattle.std.specs.declared.alloc.Global.{Global}
use Rattle.serde_json.specs.Data.{Data}
use Rattle.serde_json.specs.Find.{get, as_str, as_number, as_integer, as_object}
use Rattle.office_http.specs.Documents.{both, count_of, data_of}

-- the order that a value names, which has no other member: a point's name and a whole number
abbrev pub order_of_data : Data → Option (List ℕ × ℤ)
order_of_data d =
    if count_of (as_object d) == 2 then both (option_and_then as_str (get (codes "point") d)) (option_and_then as_integer (option_and_then as_number (get (codes "value") d)))
    else None

-- the order that a body names
abbrev pub order_of : List ℕ → Option (List ℕ × ℤ)
order_of body = option_and_then order_of_data (data_of body)

abbrev pub order_view : Option (String Global × ℤ) → Option (List ℕ × ℤ)
order_view o = option_map (λ p. (string_bytes p.0, p.1)) o
