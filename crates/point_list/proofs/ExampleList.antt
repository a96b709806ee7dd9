-- A list that is written out, and its meaning computed.
use Rattle.std.proofs.Common.{◌≡◌, ℕ, List, [], ◌∷◌, Bool, None, Ok, Err, refl, codes, pos}
use Rattle.std.specs.Str.{bytes_eq}
use Rattle.mb_pdu.specs.declared.table.Table.TheVariants.{Holding}
use Rattle.sunspec.specs.declared.point_type.PointType.TheVariants.{Uint16, Uint32}
use Rattle.sunspec.specs.declared.word_order.WordOrder.TheVariants.{Big, Swapped}
use Rattle.point_list.specs.Columns.{Record}
use Rattle.point_list.specs.Edition.{First, Second, header, header_with_words}
use Rattle.point_list.specs.Lists.{records_of}
use Rattle.point_list.specs.ListMeaning.{list_meaning, missing_header}
use Rattle.point_list.specs.declared.error.ListFault.TheVariants.{BadCsv, BadWords, UnknownDevice}
use Rattle.point_list.specs.declared.point.ListRow.{ListRow}
use Rattle.point_list.specs.declared.point.Role.TheVariants.{Counter}
use Rattle.point_list.proofs.OnLiterals.{lists_on_literals}

-- a site with one device
abbrev pub knows_m1 : List ℕ → Bool
knows_m1 text = bytes_eq text (codes "m1")

-- a list with one counter
abbrev pub list_text : List ℕ
list_text = codes "name,device,table,address,type,length,scale,role,roll\ne,m1,holding,107,uint16,,,counter,\n"

-- the counter's record
abbrev pub counter_record : Record
counter_record =
    codes "e" ∷ codes "m1" ∷ codes "holding" ∷ codes "107" ∷ codes "uint16" ∷ codes "" ∷ codes "" ∷ codes "counter" ∷ codes "" ∷ []

-- the same at a device that the site doesn't have
abbrev pub stranger_record : Record
stranger_record =
    codes "e" ∷ codes "m2" ∷ codes "holding" ∷ codes "107" ∷ codes "uint16" ∷ codes "" ∷ codes "" ∷ codes "counter" ∷ codes "" ∷ []

-- the same with its least significant register first, and at a type of one register
abbrev pub swapped_record : Record
swapped_record =
    codes "e" ∷ codes "m1" ∷ codes "holding" ∷ codes "107" ∷ codes "uint32" ∷ codes "" ∷ codes "" ∷ codes "counter" ∷ codes "" ∷ codes "swapped" ∷ []

abbrev pub single_record : Record
single_record =
    codes "e" ∷ codes "m1" ∷ codes "holding" ∷ codes "107" ∷ codes "uint16" ∷ codes "" ∷ codes "" ∷ codes "counter" ∷ codes "" ∷ codes "swapped" ∷ []

-- the counter's row
abbrev pub counter_row : ListRow
counter_row =
    record {
      row = 2;
      point = record { name = codes "e"; device = codes "m1"; table = Holding; address = 107; kind = Uint16; scale = pos 0; role = Counter; roll = 65535; order = Big };
      model = None;
    }

-- the row of the one with its least significant register first
abbrev pub swapped_row : ListRow
swapped_row =
    record {
      row = 2;
      point = record { name = codes "e"; device = codes "m1"; table = Holding; address = 107; kind = Uint32; scale = pos 0; role = Counter; roll = 4294967295; order = Swapped };
      model = None;
    }

-- the records of the text
pub text_records : records_of list_text ≡ header ∷ counter_record ∷ []
unfolding lists_on_literals
text_records = refl

-- what these records mean
pub records_mean : list_meaning Second knows_m1 (header ∷ counter_record ∷ []) ≡ Ok (counter_row ∷ [])
unfolding lists_on_literals
records_mean = refl

-- what the text means
pub text_means : list_meaning Second knows_m1 (records_of list_text) ≡ Ok (counter_row ∷ [])
unfolding lists_on_literals
text_means = refl

-- what a point of a device that the site doesn't have means
pub stranger_means : list_meaning Second knows_m1 (header ∷ stranger_record ∷ []) ≡ Err (record { fault = UnknownDevice; row = 2; column = 2 })
unfolding lists_on_literals
stranger_means = refl

-- what a list with no header means
pub headless_means : list_meaning Second knows_m1 (counter_record ∷ []) ≡ Err missing_header
unfolding lists_on_literals
headless_means = refl

-- what a list with orders means in the second edition, and in the first
pub swapped_means : list_meaning Second knows_m1 (header_with_words ∷ swapped_record ∷ []) ≡ Ok (swapped_row ∷ [])
unfolding lists_on_literals
swapped_means = refl

pub swapped_means_first : list_meaning First knows_m1 (header_with_words ∷ swapped_record ∷ []) ≡ Err missing_header
unfolding lists_on_literals
swapped_means_first = refl

-- what one means whose point has one register
pub single_means : list_meaning Second knows_m1 (header_with_words ∷ single_record ∷ []) ≡ Err (record { fault = BadWords; row = 2; column = 10 })
unfolding lists_on_literals
single_means = refl

-- what one means that has fewer fields than its header
pub short_means : list_meaning Second knows_m1 (header_with_words ∷ counter_record ∷ []) ≡ Err (record { fault = BadCsv; row = 2; column = 0 })
unfolding lists_on_literals
short_means = refl
