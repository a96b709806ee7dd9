-- What scripts that are written out print.
use Rattle.std.proofs.Common.{◌≡◌, ℕ, List, [], ◌++◌, refl, codes}
use Rattle.std.specs.Fmt.{digits}
use Rattle.hex.specs.Hex.{encode_with}
use Rattle.sunspec.specs.PointType.{row}
use Rattle.point_list.specs.Sites.{all_differ}
use Rattle.office_core.proofs.Examples.{histories_on_literals}
use Rattle.office_script.specs.declared.player.Replayed.TheVariants.{Done, FaultLine}
use Rattle.office_script.specs.Scripts.{output_of, outcome_of}

-- nothing prints nothing
pub nothing : output_of [] ≡ []
nothing = refl

abbrev unfinished : List ℕ
unfinished = codes "device m1 roof 17\nopen attic\nreply 1 00\n"

-- a line is judged whole before the office sees it
pub unfinished_prints : output_of unfinished ≡ codes "refused WrongLine\nfault line 3\n"
unfolding histories_on_literals all_differ digits
unfinished_prints = refl

pub unfinished_ends : outcome_of unfinished ≡ FaultLine 3
unfolding histories_on_literals all_differ digits
unfinished_ends = refl

-- a counter whose second reading comes last, and one of whose replies comes twice
abbrev counter : List ℕ
counter =
    codes "device m1 roof 17\npoint e,m1,holding,107,uint16,,,counter,\nopen roof\nask 1 m1 1 3 107 1\nask 1 m1 3 3 107 1\nask 1 m1 2 3 107 1\n"
    ++ codes "reply 1 00 00 00 00 00 05 11 03 02 FD E8\nreply 1 00 01 00 00 00 05 11 03 02 01 F4\n"
    ++ codes "reply 1 00 01 00 00 00 05 11 03 02 01 F4\nreply 1 00 02 00 00 00 05 11 03 02 FA 00\n"

abbrev counter_text : List ℕ
counter_text =
    codes "loaded 1\nconnection 1\nquery 00 00 00 00 00 06 11 03 00 6B 00 01\nquery 00 01 00 00 00 06 11 03 00 6B 00 01\nquery 00 02 00 00 00 06 11 03 00 6B 00 01\n"
    ++ codes "recorded 1\nrecorded 1\nrefused Repeat\nrecorded 1\nreading e 1 65000\nreading e 2 64000\nreading e 3 500\ntotal e 66572\n"

pub counter_prints : output_of counter ≡ counter_text
unfolding histories_on_literals all_differ row digits encode_with
counter_prints = refl

pub counter_ends : outcome_of counter ≡ Done
unfolding histories_on_literals all_differ row digits encode_with
counter_ends = refl

-- an order that is sent again until it is settled, and the next one
abbrev ordering : List ℕ
ordering =
    codes "device m1 roof 17\npoint lim,m1,holding,40,uint16,,,setting,\norder k1 lim 80\norder k1 lim 80\norder p2 lim 80\norder k2 lim 65535\norder k4 lim 90\nopen roof\n"
    ++ codes "send 1 1\nreply 1 00 00 00 00 00 03 11 86 06\nsend 1 2\nrestart\nsend 1 1\nopen roof\nsend 2 1\n"
    ++ codes "reply 2 00 00 00 00 00 06 11 06 00 28 00 50\nsend 2 1\nsend 2 2\n"

abbrev ordering_text : List ℕ
ordering_text =
    codes "loaded 1\norder 1\norder 1\nkey reused\nrefused out of range\norder 2\nconnection 1\nquery 00 00 00 00 00 06 11 06 00 28 00 50\nexcepted 6\nrefused NotNext\n"
    ++ codes "restarted\nrefused NoConnection\nconnection 2\nquery 00 00 00 00 00 06 11 06 00 28 00 50\nsettled\nrefused Settled\n"
    ++ codes "query 00 01 00 00 00 06 11 06 00 28 00 5A\norder 1 done\norder 2 waiting\n"

pub ordering_prints : output_of ordering ≡ ordering_text
unfolding histories_on_literals all_differ row digits encode_with
ordering_prints = refl
