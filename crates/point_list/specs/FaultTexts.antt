-- The texts of faults.
use Rattle.std.specs.Prelude.{ℕ, List, [], ◌++◌, ◌==◌, if◌then◌else◌, codes, decimal}
use Rattle.point_list.specs.declared.error.ListError.{ListError}
use Rattle.point_list.specs.declared.error.ListFault.{ListFault}
use Rattle.point_list.specs.declared.error.ListFault.TheVariants.{BadCsv, BadHeader, BadName, UnknownDevice, BadTable, BadAddress, BadType, LeftOutType, BadLength, BadScale, BadRole, BadRoll, Twice, TooManyPoints, Memory, NoModel, BadSite, PastModel, BadWords}

abbrev pub fault_text : ListFault → List ℕ
fault_text BadCsv = codes "bad csv"
fault_text BadHeader = codes "bad header"
fault_text BadName = codes "bad name"
fault_text UnknownDevice = codes "unknown device"
fault_text BadTable = codes "bad table"
fault_text BadAddress = codes "bad address"
fault_text BadType = codes "bad type"
fault_text LeftOutType = codes "left-out type"
fault_text BadLength = codes "bad length"
fault_text BadScale = codes "bad scale"
fault_text BadRole = codes "bad role"
fault_text BadRoll = codes "bad roll"
fault_text Twice = codes "twice"
fault_text TooManyPoints = codes "too many points"
fault_text Memory = codes "memory"
fault_text NoModel = codes "no model"
fault_text BadSite = codes "bad site"
fault_text PastModel = codes "past model"
fault_text BadWords = codes "bad words"

-- a word and a number, where the number isn't 0
abbrev pub numbered : List ℕ → ℕ → List ℕ
numbered word number = if number == 0 then [] else word ++ decimal number

-- a fault with its row and column, where it has them
abbrev pub error_text : ListError → List ℕ
error_text e =
    if e.row == 0 then fault_text e.fault
    else fault_text e.fault ++ codes " row " ++ decimal e.row ++ numbered (codes " column ") e.column
