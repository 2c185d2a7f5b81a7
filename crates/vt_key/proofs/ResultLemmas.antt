-- What `?` owes where it hands on an error.
use Rattle.std.proofs.Common.{◌≡◌, Result, Ok, Err, IfOk, IfErr, OnOk, sym, subst}
use Rattle.std.specs.Result.{IsErrAnd}

-- nothing has to hold of a refusal's value
pub if_refused : {V E : Type 0} (F : E → Type 0) (P : V → Type 0) (r : Result V E) → IsErrAnd r F → IfOk r P
if_refused F P (Ok v) h = absurd h
if_refused F P (Err e) h = tt

pub on_refused : {V E : Type 0} (F : E → Type 0) (Q : Type 0) (r : Result V E) → IsErrAnd r F → OnOk r Q
on_refused F Q (Ok v) h = absurd h
on_refused F Q (Err e) h = tt

-- what holds of an error holds of the same one that is handed on
pub if_err : {V E : Type 0} (F : E → Type 0) (r : Result V E) (x : E) → IsErrAnd r (λ e. e ≡ x) → F x → IfErr r F
if_err F (Ok v) x h f = tt
if_err F (Err e) x h f = subst F (sym h) f
