-- What was answered in all lives, and that the logs hold it.
use Rattle.std.specs.Prelude.{◌≡◌, ◌++◌, ℕ, List, [], ◌∷◌, flat_map, Contains, Option, None}
use Rattle.macs_endpoint.specs.State.{Call, Logs, State}
use Rattle.macs_endpoint.specs.Step.{Exchange, Step}
use Rattle.macs_headline.specs.History.{Formatted, IsHistory, Life, Past, Serves, logs_of}
use Rattle.macs_headline.specs.Moments.{Moment}
use Rattle.macs_headline.specs.Numbers.{AreHeldIn}

-- the calls of a life that were answered
abbrev pub exchanges_in : Life → List Exchange
exchanges_in (Serves edition image exchanges cut) = exchanges
exchanges_in life = []

-- those of all these lives
abbrev pub exchanges_of_lives : List Life → List Exchange
exchanges_of_lives lives = flat_map exchanges_in lives

-- the lives up to a moment: those before it, and then the one under way, so far
abbrev pub lives_at : {sectors : ℕ} {s : State} → Moment sectors s → List Life
lives_at m = m.lives ++ Serves m.edition m.image m.exchanges None ∷ []

-- they are a history, which leads to the state of that moment
abbrev pub MomentsAreHistories : ℕ → Type 0
MomentsAreHistories sectors = (s : State) (m : Moment sectors s) → IsHistory sectors (lives_at m) (Formatted s)

-- In these lives this call was answered: it is among their answers. At this moment of them, after the lives and the
-- calls before it, it was a step of the endpoint, and these logs hold all that was used and delivered by then.
pub record WasAnswered (sectors : ℕ) (lives : List Life) (e : Exchange) (logs : Logs) : Type 0 where
  pub among : Contains (exchanges_of_lives lives) e
  pub at : State
  pub moment : Moment sectors at
  pub rest : List Exchange
  pub cut : Option Call
  pub later : List Life
  pub there : moment.lives ++ Serves moment.edition moment.image (moment.exchanges ++ e ∷ rest) cut ∷ later ≡ lives
  pub after : State
  pub step : Step at e.call e.reply after
  pub held : AreHeldIn after.logs logs

-- this holds of each call that is among the answers of a history
abbrev pub AnswersAreHeld : ℕ → Type 0
AnswersAreHeld sectors = (lives : List Life) (past : Past) → IsHistory sectors lives past → (e : Exchange)
    → Contains (exchanges_of_lives lives) e
    → WasAnswered sectors lives e (logs_of past)
