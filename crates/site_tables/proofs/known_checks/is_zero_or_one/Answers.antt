use Rattle.std.proofs.Common.{◌≡◌, suc, slice_index_or, refl, rules}
use Rattle.sqlite_value.specs.declared.value.Value.TheVariants.{Null}
use Rattle.sqlite_sql.specs.declared.ops.BinaryOp.TheVariants.{Or}
use Rattle.sqlite_schema.specs.declared.code.Op.TheVariants.{Literal, Binary}
use Rattle.site_tables.specs.Tables.{equals}
use Rattle.site_tables.proofs.Terms.{pair_is}
use Rattle.site_tables.proofs.known_checks.is_zero_or_one.Goals as goal

pub returns-then-is_zero : goal.returns-then-is_zero
returns-then-is_zero c depth =
    let it = c.in-Some-Binary-Or-default-default in
    let found : slice_index_or c.args.nodes.now c.args.at (Literal Null) ≡ Binary Or it.a it.b = search rules in
    pair_is Or c.args.nodes.now (suc (suc depth)) c.args.at it.a it.b (equals c.args.place 0) (equals c.args.place 1) c.is_equality-is_zero.result c.is_equality-is_one.result _ found (c.is_equality-is_zero.ensures depth) (c.is_equality-is_one.ensures depth) (rw c.if-is_zero.true refl)

pub returns-else-is_zero : goal.returns-else-is_zero
returns-else-is_zero c depth =
    let it = c.in-Some-Binary-Or-default-default in
    let found : slice_index_or c.args.nodes.now c.args.at (Literal Null) ≡ Binary Or it.a it.b = search rules in
    pair_is Or c.args.nodes.now (suc (suc depth)) c.args.at it.a it.b (equals c.args.place 0) (equals c.args.place 1) c.is_equality-is_zero.result c.is_equality-is_one.result _ found (c.is_equality-is_zero.ensures depth) (c.is_equality-is_one.ensures depth) (rw c.if-is_zero.false refl)
