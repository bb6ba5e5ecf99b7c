-- A table schema keeps the law of schemas.
use Rattle.std.proofs.Common.{rules}
use Rattle.schema.specs.Law.{Lawful}
use Rattle.table_schema.specs.declared.table.TableSchema.{TableSchema}
use Rattle.table_schema.specs.Table.{table_meaning}

pub table_lawful : (s : TableSchema) → Lawful (table_meaning s)
table_lawful s = record {
  unknown = λ t f is. search rules;
  present = λ t f is. search rules;
  sorted = λ t is. search rules;
}
