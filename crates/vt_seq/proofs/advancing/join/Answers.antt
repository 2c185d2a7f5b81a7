use Rattle.std.proofs.Common.{ℕ, ◌+◌, ◌≤◌, ◌∙◌, ◌++◌, List, drop, length, vec_len, vec_capacity, refl, sym, ap, subst}
use Rattle.vt_model.specs.declared.sending.Sent.{Sent}
use Rattle.vt_seq.specs.inside.Queue.{all_inserted}
use Rattle.vt_seq.proofs.advancing.join.Goals as goal

pub returns : goal.returns
returns g c = record {
  pending = c.in-Ok-replace_first.ensures.events ∙ ap (λ (es : List (Sent _)). all_inserted es (drop 1 c.args.pending.now)) c.sends.ensures;
  records = c.put_behind.ensures ∙ (λ j. c.reserve.ensures.items j ++ c.records-2.ensures j);
  pending_kept = tt;
  records_kept = tt;
  refused = tt;
}

pub returns-in_default : goal.returns-in_default
returns-in_default g c = record { pending = tt; records = tt; pending_kept = refl; records_kept = c.reserve.ensures.items; refused = refl }

pub returns-in_default-replace_first : goal.returns-in_default-replace_first
returns-in_default-replace_first g c = record { pending = tt; records = tt; pending_kept = c.in_default-replace_first.ensures.unchanged; records_kept = c.reserve.ensures.items; refused = refl }

pub put_behind-requires : goal.put_behind-requires
put_behind-requires g c = subst (λ (k : ℕ). vec_len c.reserve.new.self + k ≤ vec_capacity c.reserve.new.self) (ap length (c.records.ensures ∙ sym c.records-2.ensures)) c.in-Ok.ensures.ok
