-- What the eight queries come to, computed.
use Rattle.std.proofs.Common.{refl}
use Rattle.layout.specs.Shapes.{forest_in}
use Rattle.queries.specs.Meters.{meters}
use Rattle.queries.specs.Query.{Stands}
use Rattle.queries.proofs.Walks.{walks_of_spread_twice, walks_of_beneath_an_enum, walks_of_unknown_field, walks_of_anonymous_thrice, walks_of_another_type, walks_of_no_root, walks_of_beside_a_named_one, walks_of_unknown_condition}
use Rattle.queries.specs.Queries.{spread_twice, beneath_an_enum, unknown_field, anonymous_thrice, another_type, no_root, beside_a_named_one, unknown_condition, AllStand}

of_spread_twice : Stands meters spread_twice
unfolding forest_in
of_spread_twice =
    record { document = refl; errors = refl; anonymous = refl; operations = refl; fragments = refl; selections = refl; walks = walks_of_spread_twice }

of_beneath_an_enum : Stands meters beneath_an_enum
unfolding forest_in
of_beneath_an_enum =
    record { document = refl; errors = refl; anonymous = refl; operations = refl; fragments = refl; selections = refl; walks = walks_of_beneath_an_enum }

of_unknown_field : Stands meters unknown_field
unfolding forest_in
of_unknown_field =
    record { document = refl; errors = refl; anonymous = refl; operations = refl; fragments = refl; selections = refl; walks = walks_of_unknown_field }

of_anonymous_thrice : Stands meters anonymous_thrice
unfolding forest_in
of_anonymous_thrice =
    record { document = refl; errors = refl; anonymous = refl; operations = refl; fragments = refl; selections = refl; walks = walks_of_anonymous_thrice }

of_another_type : Stands meters another_type
unfolding forest_in
of_another_type =
    record { document = refl; errors = refl; anonymous = refl; operations = refl; fragments = refl; selections = refl; walks = walks_of_another_type }

of_no_root : Stands meters no_root
unfolding forest_in
of_no_root =
    record { document = refl; errors = refl; anonymous = refl; operations = refl; fragments = refl; selections = refl; walks = walks_of_no_root }

of_beside_a_named_one : Stands meters beside_a_named_one
unfolding forest_in
of_beside_a_named_one =
    record { document = refl; errors = refl; anonymous = refl; operations = refl; fragments = refl; selections = refl; walks = walks_of_beside_a_named_one }

of_unknown_condition : Stands meters unknown_condition
unfolding forest_in
of_unknown_condition =
    record { document = refl; errors = refl; anonymous = refl; operations = refl; fragments = refl; selections = refl; walks = walks_of_unknown_condition }

pub all_stand : AllStand
all_stand =
    (of_spread_twice, (of_beneath_an_enum, (of_unknown_field, (of_anonymous_thrice, (of_another_type, (of_no_root, (of_beside_a_named_one, (of_unknown_condition, tt))))))))
