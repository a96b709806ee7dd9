-- What stays in a round: the site, the points and which connections are open.
use Rattle.std.proofs.Common.{◌≡◌, ℕ, List, [], ◌∷◌, refl, ap, ◌∙◌, ⊎_elim}
use Rattle.mb_mbap.specs.declared.frame.Frame.{Frame}
use Rattle.read_planner.specs.declared.Read.{Read as AskedRead}
use Rattle.office_core.specs.History.{Ask, Send, Reply, Noise, History, site_of, points, open_line}
use Rattle.office_core.specs.Messages.{arriving}
use Rattle.office_net.specs.declared.job.LineJob.{LineJob}
use Rattle.office_net.specs.declared.job.LineJob.TheVariants.{Order, Read}
use Rattle.office_net.specs.Moves.{Start, Move, Asks, Passes, Comes, told, turn_of, next_order, number_of}
use Rattle.office_net.proofs.Sorted.{IsReply, IsOther, sorted}

-- what asks, sends, replies and noise leave as it is
module _ {A : Type 0} (f : History → A)
    (asks : (now : History) (conn : ℕ) (device : List ℕ) (slot : ℕ) (read : AskedRead) → f (Ask conn device slot read ∷ now) ≡ f now)
    (sends : (now : History) (conn number : ℕ) → f (Send conn number ∷ now) ≡ f now)
    (replies : (now : History) (conn number : ℕ) (unit : List ℕ) → f (Reply conn number unit ∷ now) ≡ f now)
    (noises : (now : History) (conn : ℕ) (frame : Frame) → f (Noise conn frame ∷ now) ≡ f now) where
  after_frame : (now : History) (conn : ℕ) (frame : Frame) → f (arriving now conn frame ∷ now) ≡ f now
  after_frame now conn frame = ⊎_elim
      (λ (reply : IsReply now conn frame). ap (λ h. f (h ∷ now)) reply.is ∙ replies now conn reply.number frame.unit)
      (λ (other : IsOther now conn frame). ap (λ h. f (h ∷ now)) other.is ∙ noises now conn frame)
      (sorted now conn frame)

  pub after_turn : (conn slot : ℕ) (now : History) (job : LineJob) → f (turn_of conn slot now job ∷ now) ≡ f now
  after_turn conn slot now (Order device) = sends now conn (number_of (next_order now device))
  after_turn conn slot now (Read device read) = asks now conn device slot read

  pub stays : (start : Start) (moves : List Move) → f (told start moves) ≡ f start.before
  stays start [] = refl
  stays start (Asks job ∷ moves) = after_turn start.conn start.slot (told start moves) job ∙ stays start moves
  stays start (Passes job ∷ moves) = stays start moves
  stays start (Comes frame ∷ moves) = after_frame (told start moves) start.conn frame ∙ stays start moves

pub same_site : (start : Start) (moves : List Move) → site_of (told start moves) ≡ site_of start.before
same_site = stays site_of (λ now conn device slot read. refl) (λ now conn number. refl) (λ now conn number unit. refl) (λ now conn frame. refl)

pub same_points : (start : Start) (moves : List Move) → points (told start moves) ≡ points start.before
same_points = stays points (λ now conn device slot read. refl) (λ now conn number. refl) (λ now conn number unit. refl) (λ now conn frame. refl)

pub same_line : (conn : ℕ) (start : Start) (moves : List Move) → open_line (told start moves) conn ≡ open_line start.before conn
same_line conn = stays (λ now. open_line now conn) (λ now c device slot read. refl) (λ now c number. refl) (λ now c number unit. refl) (λ now c frame. refl)
