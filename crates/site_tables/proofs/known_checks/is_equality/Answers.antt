use Rattle.std.proofs.Common.{◌≡◌, pos, suc, slice_index_or, refl, rules}
use Rattle.sqlite_value.specs.declared.value.Value.TheVariants.{Null, Int}
use Rattle.sqlite.specs.Term.{col, lit}
use Rattle.sqlite.specs.Collation.TheVariants as collations
use Rattle.sqlite_sql.specs.declared.ops.BinaryOp.TheVariants.{Compare}
use Rattle.sqlite_sql.specs.declared.ops.CompareOp.TheVariants.{Eq}
use Rattle.sqlite_schema.specs.declared.code.Op.TheVariants.{Literal, Binary}
use Rattle.site_tables.proofs.Terms.{pair_is}
use Rattle.site_tables.proofs.known_checks.is_equality.Goals as goal

pub returns-then-is_column : goal.returns-then-is_column
returns-then-is_column c depth =
    let it = c.in-Some-Binary-Compare-Eq-Binary-default-default in
    let found : slice_index_or c.args.nodes.now c.args.at (Literal Null) ≡ Binary (Compare Eq collations.Binary) it.a it.b = search rules in
    pair_is (Compare Eq collations.Binary) c.args.nodes.now (suc depth) c.args.at it.a it.b (col 1 c.args.place) (lit (Int (pos c.args.number))) c.is_place-is_column.result c.is_literal-is_number.result _ found (c.is_place-is_column.ensures depth) (c.is_literal-is_number.ensures depth) (rw c.if-is_column.true refl)

pub returns-else-is_column : goal.returns-else-is_column
returns-else-is_column c depth =
    let it = c.in-Some-Binary-Compare-Eq-Binary-default-default in
    let found : slice_index_or c.args.nodes.now c.args.at (Literal Null) ≡ Binary (Compare Eq collations.Binary) it.a it.b = search rules in
    pair_is (Compare Eq collations.Binary) c.args.nodes.now (suc depth) c.args.at it.a it.b (col 1 c.args.place) (lit (Int (pos c.args.number))) c.is_place-is_column.result c.is_literal-is_number.result _ found (c.is_place-is_column.ensures depth) (c.is_literal-is_number.ensures depth) (rw c.if-is_column.false refl)
