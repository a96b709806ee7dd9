-- What each step keeps, turns keep.
use Rattle.std.proofs.Common.{ℕ, zero, suc, Bool, List, [], ◌∷◌, ◌++◌, Result, Ok, sym, subst}
use Rattle.std.proofs.Math.Seq.{append_snoc}
use Rattle.run_beat.specs.declared.sockets.SocketFault.{SocketFault}
use Rattle.run_beat.specs.Turns.{EachSteps, Turn, Turns}

module _ {L C W : Type 0} (of_line : L → W → Bool → L → W → Type 0) (of_caller : C → W → Bool → C → W → Type 0)
    (waits : W → Bool → Result (Unit {0}) SocketFault → W → Type 0)
    (Goes : List L → List C → W → List L → List C → W → Type 0)
    (still : (ls : List L) (cs : List C) (world : W) → Goes ls cs world ls cs world)
    (chains : (ls ls' ls'' : List L) (cs cs' cs'' : List C) (one two three : W) → Goes ls cs one ls' cs' two → Goes ls' cs' two ls'' cs'' three → Goes ls cs one ls'' cs'' three)
    (by_line : (front : List L) (line : L) (back : List L) (cs : List C) (one : W) (more : Bool) (line' : L) (two : W)
    → of_line line one more line' two → Goes (front ++ line ∷ back) cs one (front ++ line' ∷ back) cs two)
    (by_caller : (ls : List L) (front : List C) (caller : C) (back : List C) (one : W) (more : Bool) (caller' : C) (two : W)
    → of_caller caller one more caller' two → Goes ls (front ++ caller ∷ back) one ls (front ++ caller' ∷ back) two)
    (by_wait : (ls : List L) (cs : List C) (one : W) (more : Bool) (result : Result (Unit {0}) SocketFault) (two : W) → waits one more result two → Goes ls cs one ls cs two) where
  by_lines : (front ls : List L) (cs : List C) (one : W) (mores : List Bool) (ls' : List L) (two : W)
      → EachSteps of_line ls one mores ls' two → Goes (front ++ ls) cs one (front ++ ls') cs two
  by_lines front [] cs one [] [] two stepped = subst (λ (world : W). Goes (front ++ []) cs one (front ++ []) cs world) (sym stepped) (still (front ++ []) cs one)
  by_lines front [] cs one [] (line' ∷ ls') two stepped = absurd stepped
  by_lines front [] cs one (more ∷ mores) ls' two stepped = absurd stepped
  by_lines front (line ∷ ls) cs one [] ls' two stepped = absurd stepped
  by_lines front (line ∷ ls) cs one (more ∷ mores) [] two stepped = absurd stepped
  by_lines front (line ∷ ls) cs one (more ∷ mores) (line' ∷ ls') two stepped =
      chains (front ++ line ∷ ls) (front ++ line' ∷ ls) (front ++ line' ∷ ls') cs cs cs one stepped.0 two
      (by_line front line ls cs one more line' stepped.0 stepped.1)
      (subst (λ (members : List L). Goes members cs stepped.0 (front ++ line' ∷ ls') cs two) (append_snoc front line' ls)
      (subst (λ (members : List L). Goes ((front ++ line' ∷ []) ++ ls) cs stepped.0 members cs two) (append_snoc front line' ls')
      (by_lines (front ++ line' ∷ []) ls cs stepped.0 mores ls' two stepped.2)))

  by_callers : (ls : List L) (front cs : List C) (one : W) (mores : List Bool) (cs' : List C) (two : W)
      → EachSteps of_caller cs one mores cs' two → Goes ls (front ++ cs) one ls (front ++ cs') two
  by_callers ls front [] one [] [] two stepped = subst (λ (world : W). Goes ls (front ++ []) one ls (front ++ []) world) (sym stepped) (still ls (front ++ []) one)
  by_callers ls front [] one [] (caller' ∷ cs') two stepped = absurd stepped
  by_callers ls front [] one (more ∷ mores) cs' two stepped = absurd stepped
  by_callers ls front (caller ∷ cs) one [] cs' two stepped = absurd stepped
  by_callers ls front (caller ∷ cs) one (more ∷ mores) [] two stepped = absurd stepped
  by_callers ls front (caller ∷ cs) one (more ∷ mores) (caller' ∷ cs') two stepped =
      chains ls ls ls (front ++ caller ∷ cs) (front ++ caller' ∷ cs) (front ++ caller' ∷ cs') one stepped.0 two
      (by_caller ls front caller cs one more caller' stepped.0 stepped.1)
      (subst (λ (members : List C). Goes ls members stepped.0 ls (front ++ caller' ∷ cs') two) (append_snoc front caller' cs)
      (subst (λ (members : List C). Goes ls ((front ++ caller' ∷ []) ++ cs) stepped.0 ls members two) (append_snoc front caller' cs')
      (by_callers ls (front ++ caller' ∷ []) cs stepped.0 mores cs' two stepped.2)))

  pub by_turn : (ls : List L) (cs : List C) (one : W) (result : Result (Unit {0}) SocketFault) (ls' : List L) (cs' : List C) (two : W)
      → Turn of_line of_caller waits ls cs one result ls' cs' two → Goes ls cs one ls' cs' two
  by_turn ls cs one result ls' cs' two turn =
      chains ls ls' ls' cs cs cs' one turn.behind_lines two
      (by_lines [] ls cs one turn.of_lines ls' turn.behind_lines turn.by_lines)
      (chains ls' ls' ls' cs cs' cs' turn.behind_lines turn.behind_callers two
      (by_callers ls' [] cs turn.behind_lines turn.of_callers cs' turn.behind_callers turn.by_callers)
      (by_wait ls' cs' turn.behind_callers _ result two turn.waited))

  pub by_turns : (turns : ℕ) (ls : List L) (cs : List C) (one : W) (ls' : List L) (cs' : List C) (two : W)
      → Turns of_line of_caller waits turns ls cs one ls' cs' two → Goes ls cs one ls' cs' two
  by_turns zero ls cs one ls' cs' two turned =
      subst (λ (members : List L). Goes ls cs one members cs' two) (sym turned.0)
      (subst (λ (members : List C). Goes ls cs one ls members two) (sym turned.1)
      (subst (λ (world : W). Goes ls cs one ls cs world) (sym turned.2) (still ls cs one)))
  by_turns (suc turns) ls cs one ls' cs' two turned =
      chains ls turned.0 ls' cs turned.1 cs' one turned.2 two
      (by_turns turns ls cs one turned.0 turned.1 turned.2 turned.3)
      (by_turn turned.0 turned.1 turned.2 (Ok tt) ls' cs' two turned.4)
