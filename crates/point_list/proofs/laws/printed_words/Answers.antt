use Rattle.point_list.proofs.Words.{order_word, role_word, table_words}
use Rattle.point_list.proofs.laws.printed_words.Goals as goal

pub returns-clause-tables : goal.returns-clause-tables
returns-clause-tables c = table_words

pub returns-clause-roles : goal.returns-clause-roles
returns-clause-roles c = role_word

pub returns-clause-orders : goal.returns-clause-orders
returns-clause-orders c = order_word
