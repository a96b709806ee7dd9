-- What a crash leaves after moves, from what it leaves after each.
use Rattle.std.proofs.Common.{true, false, List, [], ◌∷◌, ◌++◌, Option, Some, None, sym, subst, append_assoc}
use Rattle.std.proofs.lemmas.List.{append-nil}
use Rattle.poll_book.specs.Tables.{Tables, Within}
use Rattle.office_core.specs.History.{tables}
use Rattle.office_core.specs.Leavings.{LeftAfter}
use Rattle.office_core.proofs.Following.{left_more}
use Rattle.office_net.specs.Moves.{Start, Move, Asks, Passes, Comes, told, LeftIn, LeftTrying}
use Rattle.office_net.specs.Stages.{LeftSince}

-- from less, more moves leave less
pub since_more : (might may : Tables → Type 0) (start : Start) (more moves : List Move) → Within might may → Within (LeftSince might start more moves) (LeftSince may start more moves)
since_more might may start [] moves within = within
since_more might may start (Asks job ∷ more) moves within =
    left_more (LeftSince might start more moves) (LeftSince may start more moves) (tables (told start (more ++ moves))) (tables (told start (Asks job ∷ more ++ moves))) false
    (since_more might may start more moves within)
since_more might may start (Passes job ∷ more) moves within = since_more might may start more moves within
since_more might may start (Comes frame ∷ more) moves within =
    left_more (LeftSince might start more moves) (LeftSince may start more moves) (tables (told start (more ++ moves))) (tables (told start (Comes frame ∷ more ++ moves))) false
    (since_more might may start more moves within)

-- moves, and then more
pub since_then : (may : Tables → Type 0) (start : Start) (last more moves : List Move)
    → Within (LeftSince (LeftSince may start more moves) start last (more ++ moves)) (LeftSince may start (last ++ more) moves)
since_then may start [] more moves left l = l
since_then may start (Asks job ∷ last) more moves left l =
    subst (λ (all : List Move). LeftAfter (LeftSince may start (last ++ more) moves) (tables (told start all)) (tables (told start (Asks job ∷ all))) false left)
    (sym (append_assoc last more moves))
    (left_more (LeftSince (LeftSince may start more moves) start last (more ++ moves)) (LeftSince may start (last ++ more) moves)
    (tables (told start (last ++ (more ++ moves)))) (tables (told start (Asks job ∷ last ++ (more ++ moves)))) false
    (since_then may start last more moves) left l)
since_then may start (Passes job ∷ last) more moves left l = since_then may start last more moves left l
since_then may start (Comes frame ∷ last) more moves left l =
    subst (λ (all : List Move). LeftAfter (LeftSince may start (last ++ more) moves) (tables (told start all)) (tables (told start (Comes frame ∷ all))) false left)
    (sym (append_assoc last more moves))
    (left_more (LeftSince (LeftSince may start more moves) start last (more ++ moves)) (LeftSince may start (last ++ more) moves)
    (tables (told start (last ++ (more ++ moves)))) (tables (told start (Comes frame ∷ last ++ (more ++ moves)))) false
    (since_then may start last more moves) left l)

-- since the round began
pub since_begun : (may : Tables → Type 0) (start : Start) (more : List Move) → Within (LeftSince may start more []) (LeftIn may start more)
since_begun may start [] left l = l
since_begun may start (Asks job ∷ more) left l =
    subst (λ (all : List Move). LeftAfter (LeftIn may start more) (tables (told start all)) (tables (told start (Asks job ∷ all))) false left) (append-nil more)
    (left_more (LeftSince may start more []) (LeftIn may start more) (tables (told start (more ++ []))) (tables (told start (Asks job ∷ more ++ []))) false
    (since_begun may start more) left l)
since_begun may start (Passes job ∷ more) left l = since_begun may start more left l
since_begun may start (Comes frame ∷ more) left l =
    subst (λ (all : List Move). LeftAfter (LeftIn may start more) (tables (told start all)) (tables (told start (Comes frame ∷ all))) false left) (append-nil more)
    (left_more (LeftSince may start more []) (LeftIn may start more) (tables (told start (more ++ []))) (tables (told start (Comes frame ∷ more ++ []))) false
    (since_begun may start more) left l)

-- a move that was refused adds to more what it adds to less
pub trying_more : (might may : Tables → Type 0) (start : Start) (moves : List Move) (tried : Option Move) → Within might may → Within (LeftTrying might start moves tried) (LeftTrying may start moves tried)
trying_more might may start moves None within = within
trying_more might may start moves (Some move) within = left_more might may (tables (told start moves)) (tables (told start (move ∷ moves))) true within
