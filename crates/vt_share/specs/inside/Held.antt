-- What a worker with one pool of processes is made of.
use Rattle.std.specs.Prelude.{ℕ, List}
use Rattle.vt_key.specs.promise.Times.{Time}
use Rattle.vt_key.specs.declared.letter.Mail.{Mail}
use Rattle.vt_key.specs.declared.letter.Colour.{Colour}
use Rattle.vt_model.specs.declared.settings.Config.{Config}
use Rattle.vt_steps.specs.promise.Letters.{Counts}
use Rattle.vt_kernel.specs.inside.Held.{AllOwnMail, AreCounted}
use Rattle.vt_pool.specs.inside.View.{Stock}
use Rattle.vt_pool.specs.inside.Inside.{AreSettled}
use Rattle.vt_pool.specs.inside.Share.{HeldShare, HeldPool}

-- the worker with this pool and these fields
abbrev pub share_of : {S P K : Type 0} → HeldPool S P K → List (Mail P) → Colour → Counts → Counts → Time → Time → HeldShare S P K
share_of pool arrived colour sent got red_minimum floor = record {
  worker = pool.worker;
  config = pool.config;
  stock = pool.stock;
  outbox = pool.outbox;
  arrived = arrived;
  colour = colour;
  sent = sent;
  got = got;
  red_minimum = red_minimum;
  floor = floor;
  serial = pool.serial;
}

-- how its fields go together: between calls each pending letter is after all past events of its process
pub record IsShareInside {S P K : Type 0} (config : Config) (w : ℕ) (stock : Stock S P K) (arrived : List (Mail P)) (sent got : Counts) : Type 0 where
  pub settled : AreSettled stock
  pub own_mail : AllOwnMail config w arrived
  pub few_sent : AreCounted sent
  pub few_got : AreCounted got
