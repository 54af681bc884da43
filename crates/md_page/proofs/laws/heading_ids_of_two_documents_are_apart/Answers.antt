-- What one prefix has more than the other stands where the other's number does.
use Rattle.md_page.proofs.Apart.{headings-apart}
use Rattle.md_page.proofs.laws.heading_ids_of_two_documents_are_apart.Goals as goal

pub returns : goal.returns
returns c = headings-apart
