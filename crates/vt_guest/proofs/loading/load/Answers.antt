use Rattle.std.proofs.Common.{◌≡◌, ◌⊎◌, ◌≤◌, inl, inr, length, Result, Ok, Err, arith}
use Rattle.std.specs.Result.{IfErr}
use Rattle.std.proofs.lemmas.Result.{IfOk-weaker}
use Rattle.vt_guest.specs.declared.loading.Refusal.TheVariants.{Memory}
use Rattle.vt_guest.specs.declared.loading.TheConstants.{MAX_DATA}
use Rattle.vt_guest.specs.promise.Loading.{IsExecutableOf, IsAssembled, IsLoaded, IsExecutableRefused, IsRefused}
use Rattle.vt_guest.proofs.loading.load.Goals as goal

err-weaker : {X Y : Type 0} (r : Result X Y) (P Q : Y → Type 0) → ((y : Y) → P y → Q y) → IfErr r P → IfErr r Q
err-weaker (Ok x) P Q f h = h
err-weaker (Err y) P Q f h = f y h

pub returns-clause-loaded : goal.returns-clause-loaded
returns-clause-loaded c =
    let e = c.in-Ok.executable in
    let given = c.in-Ok.ensures in
    let of : IsExecutableOf c.args.bytes.now e = record {
      sound = given.refused;
      compressed = given.compressed;
      code = given.code;
      image_size = given.image_size;
      image = given.image;
      state_size = given.state_size;
      state = given.state;
      symbols = given.symbols;
    } in
    let few : length c.args.input.items ≤ MAX_DATA = omega (arith, c.if-len-gt-MAX_DATA.false, c.len.ensures) in
    IfOk-weaker c.assemble.result (IsAssembled e c.args.sets.now c.args.input.items c.args.fuel) (IsLoaded c.args.bytes.now c.args.sets.now c.args.input.items c.args.fuel) (λ l a. (few, (e, of, a))) c.assemble.ensures.assembled

pub returns-clause-refused : goal.returns-clause-refused
returns-clause-refused c =
    let e = c.in-Ok.executable in
    let given = c.in-Ok.ensures in
    let of : IsExecutableOf c.args.bytes.now e = record {
      sound = given.refused;
      compressed = given.compressed;
      code = given.code;
      image_size = given.image_size;
      image = given.image;
      state_size = given.state_size;
      state = given.state;
      symbols = given.symbols;
    } in
    let few : length c.args.input.items ≤ MAX_DATA = omega (arith, c.if-len-gt-MAX_DATA.false, c.len.ensures) in
    err-weaker c.assemble.result (λ refusal. (refusal ≡ Memory) ⊎ IsExecutableRefused e c.args.sets.now refusal) (λ refusal. (refusal ≡ Memory) ⊎ IsRefused c.args.bytes.now c.args.sets.now c.args.input.items refusal)
    (λ refusal h. elim h [ inl m ↦ inl m | inr w ↦ inr (inr (inr (few, (e, of, w)))) ]) c.assemble.ensures.refused
