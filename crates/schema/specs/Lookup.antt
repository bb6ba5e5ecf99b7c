-- The answers of a schema to questions. Assumes nothing.
use Rattle.schema.specs.declared.lookup.Question.{Question}
use Rattle.schema.specs.declared.lookup.Question.TheVariants as question
use Rattle.schema.specs.declared.lookup.Answer.{Answer}
use Rattle.schema.specs.declared.lookup.Answer.TheVariants as answer
use Rattle.schema.specs.Meaning.{Meaning}

-- The answer of a schema with this meaning to a question.
abbrev pub answer_to : Meaning → Question → Answer
answer_to m (question.Root operation) = answer.Root (m.root operation)
answer_to m (question.Known type-name) = answer.Known (m.known type-name)
answer_to m (question.Kind type-name) = answer.Kind (m.sort type-name)
answer_to m (question.Field type-name field-name) = answer.Field (m.field type-name field-name)
