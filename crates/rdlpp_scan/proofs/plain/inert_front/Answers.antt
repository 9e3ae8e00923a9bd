use Rattle.rdlpp_scan.proofs.OrdinaryLaws.{first_front, front_len, front_lines}
use Rattle.rdlpp_scan.proofs.plain.inert_front.Goals as goal

pub returns-clause-few : goal.returns-clause-few
returns-clause-few c =
    (front_len c.args.bytes.now c.args.at c.first_bit-len.result c.requires (first_front c.args.bytes.now c.args.at c.first_bit-len.result c.marks_in.result c.marks_in.ensures c.first_bit-len.ensures)).0

pub returns-clause-inert : goal.returns-clause-inert
returns-clause-inert c =
    (front_len c.args.bytes.now c.args.at c.first_bit-len.result c.requires (first_front c.args.bytes.now c.args.at c.first_bit-len.result c.marks_in.result c.marks_in.ensures c.first_bit-len.ensures)).1

pub returns-clause-lines : goal.returns-clause-lines
returns-clause-lines c =
    let few = (front_len c.args.bytes.now c.args.at c.first_bit-len.result c.requires (first_front c.args.bytes.now c.args.at c.first_bit-len.result c.marks_in.result c.marks_in.ensures c.first_bit-len.ensures)).0 in
    front_lines c.args.bytes.now c.args.at c.first_bit-len.result c.ends_in.result c.requires few c.ends_in.ensures
