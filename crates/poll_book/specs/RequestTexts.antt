-- The texts of what is wrong with a request.
use Rattle.std.specs.Prelude.{ℕ, List, codes}
use Rattle.point_list.specs.FaultTexts.{fault_text}
use Rattle.poll_book.specs.declared.requests.RequestFault.{RequestFault}
use Rattle.poll_book.specs.declared.requests.RequestFault.TheVariants.{List as OfList, PointDiffers, UnknownPoint, NotASetting, OutOfRange, TooManyOrders, NotACounter, TooManyVoids}

abbrev pub request_fault_text : RequestFault → List ℕ
request_fault_text (OfList fault) = fault_text fault
request_fault_text PointDiffers = codes "point differs"
request_fault_text UnknownPoint = codes "unknown point"
request_fault_text NotASetting = codes "not a setting"
request_fault_text OutOfRange = codes "out of range"
request_fault_text TooManyOrders = codes "too many orders"
request_fault_text NotACounter = codes "not a counter"
request_fault_text TooManyVoids = codes "too many voids"
