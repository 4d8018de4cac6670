-- Demand 3, second half: a wait that is withdrawn with nothing between but releases and signals.
use Rattle.std.specs.Prelude.{ℕ, List, [], ◌∷◌}
use Rattle.theorems.specs.Histories.{Call, release, signal}

-- the call is a release or a signal
pub data Pulse : Call → Type 0 where
  released : {number time : ℕ} → Pulse (release number time)
  signalled : {number : ℕ} → Pulse (signal number)

-- nothing but releases and signals
pub data Pulses : List Call → Type 0 where
  none : Pulses []
  more : {c : Call} {rest : List Call} → Pulse c → Pulses rest → Pulses (c ∷ rest)
