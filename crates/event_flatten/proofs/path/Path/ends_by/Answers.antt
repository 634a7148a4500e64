use Rattle.std.proofs.Common.{◌≡◌, ◌≤◌, ℕ, zero, suc, List, [], ◌∷◌, drop, length, ap, arith}
use Rattle.std.proofs.lemmas.List.{drop_all}
use Rattle.std.proofs.lemmas.Bool.{leb-true, le-leb}
use Rattle.event_flatten.proofs.path.Path.ends_by.Goals as goal

drop_long : (depth : ℕ) (keys : List (List ℕ)) → drop depth keys ≡ [] → length keys ≤ depth
drop_long zero [] e = omega arith
drop_long zero (k ∷ keys) e = cc
drop_long (suc depth) [] e = omega arith
drop_long (suc depth) (k ∷ keys) e = let h = drop_long depth keys e in omega arith

pub returns : goal.returns
returns c = (λ t. drop_all c.args.depth c.args.self.now (omega (arith, leb-true _ _ t, ap length c.keys.ensures)), λ e. le-leb _ _ (omega (arith, drop_long c.args.depth c.args.self.now e, ap length c.keys.ensures)))
